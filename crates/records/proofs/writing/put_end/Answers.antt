use Rattle.std.proofs.Common.{◌≡◌, ℕ, ◌-◌, List, length, take, sym, ap, ◌∙◌, arith}
use Rattle.std.proofs.lemmas.List.{append-nil, take_all}
use Rattle.wire.specs.declared.forms.Form.TheVariants.{LengthOnly}
use Rattle.records.specs.Records.{sealed}
use Rattle.records.proofs.writing.put_end.Goals as goal

as_it_was : (bs : List ℕ) → bs ≡ sealed LengthOnly bs
as_it_was bs = let all : take (length bs - 0) bs ≡ bs = take_all (length bs - 0) bs (omega arith) in sym (append-nil (take (length bs - 0) bs) ∙ all)

pub returns-in-Checksummed : goal.returns-in-Checksummed
returns-in-Checksummed c = c.put_checksum.ensures ∙ ap (λ f. sealed f c.args.place.now) (sym c.in-Checksummed.is)

pub returns-in-LengthOnly : goal.returns-in-LengthOnly
returns-in-LengthOnly c = as_it_was c.args.place.now ∙ ap (λ f. sealed f c.args.place.now) (sym c.in-LengthOnly.is)
