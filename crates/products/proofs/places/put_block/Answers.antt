use Rattle.std.proofs.Common.{take, sym, refl, ap, ◌∙◌}
use Rattle.memory.specs.Laid.{spliced, rewritten}
use Rattle.records.specs.Drafts.{drafts}
use Rattle.records.specs.Asked.{asked}
use Rattle.records.proofs.Sizes.{block_written}
use Rattle.products.proofs.Filling.{filled}
use Rattle.products.proofs.places.put_block.Goals as goal

pub returns : goal.returns
returns g c =
    let part = c.args.part in
    record {
      answer = refl;
      after = filled _ _ c.args.memory.now _ _ _ c.args.used part.from part.to c.args.draft.size c.requires.forward c.requires.inside c.requires.within c.requires.room c.requires.fits c.make_gap.ensures.after c.write_block.ensures.answer c.in_ok-write_block.was c.write_block.ensures.after
          ∙ ap (λ b. rewritten (spliced part.from part.to b (take c.args.used c.args.memory.now)) c.args.used c.args.memory.now) (sym (block_written (g.B.Book.meaning c.args.book.now) (drafts c.args.draft (asked c.args.given))));
    }
