use Rattle.std.proofs.Common.{◌/◌, ◌%◌, ◌+◌, [], ◌∷◌, length, ap, ◌∙◌, length-append, append_assoc, arith}
use Rattle.std.proofs.lemmas.Str.{length-encode, len_utf8_ascii}
use Rattle.text.specs.Numeral.{numeral}
use Rattle.text.proofs.Numerals.{numeral_one, numeral_more}
use Rattle.text.proofs.writing.+put_digits.Goals as goal
use Rattle.text.proofs.writing.+put_digits.Goals.{then-n-base, else-n-base}

pub put_digits-requires : goal.put_digits-requires
put_digits-requires t c =
    let e = simp length-append at (ap length (numeral_more c.args.base c.args.n (omega arith) (omega arith))) in
    (grind arith, (omega arith, (omega arith, omega arith)))

pub push-requires : goal.push-requires
push-requires t c =
    let d = length-encode c.from.result ∙ len_utf8_ascii c.from.result (omega arith) in
    elim c.if-n-base.branch [
      | then-n-base w ↦
          let e = simp length-append at (ap length (numeral_more c.args.base c.args.n (omega arith) (omega arith))) in
          let f = simp length-append at (ap length w.put_digits.ensures) in
          (omega arith, rw (w.text-is, d, f) (omega arith))
      | else-n-base w ↦
          let e = ap length (numeral_one c.args.base c.args.n (omega arith) (omega arith)) in
          (omega arith, rw (w.text-is, d) (omega arith))
    ]

pub returns : goal.returns
returns t c =
    let p = c.push.ensures.ascii (omega arith) in
    elim c.if-n-base.branch [
      | then-n-base w ↦
          let e = numeral_more c.args.base c.args.n (omega arith) (omega arith) in
          cc (append_assoc c.args.text.now.bytes (numeral c.args.base (c.args.n / c.args.base)) ((48 + c.args.n % c.args.base) ∷ []))
      | else-n-base w ↦
          let e = numeral_one c.args.base c.args.n (omega arith) (omega arith) in
          cc
    ]
