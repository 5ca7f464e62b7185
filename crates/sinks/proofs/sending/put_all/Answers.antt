use Rattle.std.proofs.Common.{◌≡◌, ℕ, List, [], ◌∷◌, ◌++◌, length, sym, ap, ◌∙◌, subst, append_assoc, arith, rules}
use Rattle.std.proofs.lemmas.List.{append-nil, length-append, take_all}
use Rattle.std.specs.Slice.Iter.{chunks_exact_rest}
use Rattle.wire.specs.Pairs.{pairs}
use Rattle.sinks.specs.Sinks.{Took}
use Rattle.sinks.proofs.Pairing.{length_pairs, pairs_front, pairs_short, took_none, took_more}
use Rattle.sinks.proofs.sending.put_all.Goals as goal

pub returns-then-space-count : goal.returns-then-space-count
returns-then-space-count g c = search (rules, length_pairs)

pub loop-two-init : goal.loop-two-init
loop-two-init g c = (search rules, ([], search (rules, take_all), took_none g.row.S.Denot g.S.Sink.taken g.S.Sink.room g.S.Sink.wrote c.args.sink.now c.space.ensures.begun))

pub loop-two-preserved : goal.loop-two-preserved
loop-two-preserved g c =
    let inv = c.loop-two.invariant in
    let steps = c.in-Some.ensures.steps in
    let rest : List ℕ = chunks_exact_rest c.next.new.self in
    let front = pairs_front (chunks_exact_rest c.loop-two.two-iterator) c.in-Some.two.now rest steps.1.0 (omega (arith, steps.1.1, inv.0)) in (
      omega (arith, steps.0, inv.0),
      (
        inv.1.0 ++ (c.worth.result ∷ []),
        append_assoc inv.1.0 (c.worth.result ∷ []) (pairs rest) ∙ ap (λ p. inv.1.0 ++ (p ∷ pairs rest)) c.worth.ensures ∙ ap (λ ps. inv.1.0 ++ ps) (sym front) ∙ inv.1.1,
        took_more g.row.S.Denot g.S.Sink.taken g.S.Sink.room g.S.Sink.wrote c.args.sink.now c.loop-two.sink c.put.new.self
            inv.1.0 (c.worth.result ∷ []) inv.1.2 c.in_ok-put.ensures,
      ),
    )

-- with a pair left there is room for it
pub returns-in_err-put : goal.returns-in_err-put
returns-in_err-put g c =
    let inv = c.loop-two.invariant in
    let steps = c.in-Some.ensures.steps in
    let rest : List ℕ = chunks_exact_rest c.loop-two.two-iterator in
    let front = ap length (pairs_front rest c.in-Some.two.now (chunks_exact_rest c.next.new.self) steps.1.0 (omega (arith, steps.1.1, inv.0))) in
    let whole = ap length inv.1.1 in
    absurd (omega (arith, c.in_err-put.ensures.0, inv.1.2.left, length_pairs c.args.bytes.now, length-append inv.1.0 (pairs rest)))

pub returns : goal.returns
returns g c =
    let inv = c.loop-two.invariant in
    let all : inv.1.0 ≡ pairs c.args.bytes.now =
    sym (append-nil inv.1.0) ∙ ap (λ ps. inv.1.0 ++ ps) (sym (pairs_short (chunks_exact_rest c.loop-two.two-iterator) (omega (arith, c.in-None.ensures.steps.1.0, inv.0)))) ∙ inv.1.1 in
    record { answer = search (rules, length_pairs); after = subst (λ (ps : List ℕ). Took g.S.Sink.taken g.S.Sink.room g.S.Sink.wrote c.args.sink.now ps c.loop-two.sink) all inv.1.2 }
