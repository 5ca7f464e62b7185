-- Proofs, and no definitions: a layout of sound cells keeps the laws of a kind.
use Rattle.std.specs.Prelude.{◌≡◌, ℕ, ◌+◌, ◌-◌, ◌*◌, ◌/◌, ◌<◌, Bool, true, ◌&&◌, List, length, ℤ, Some, Ok, ◌==◌, nat_eq}
use Rattle.std.proofs.Common.{ap, ◌∙◌, mul-div_cancel, arith}
use Rattle.std.proofs.Math.Nat.{add-sub_cancel_left}
use Rattle.std.proofs.lemmas.Bool.{eqb-true, eq-eqb, and_parts}
use Rattle.wire.proofs.Passing.{went_on}
use Rattle.books.specs.declared.faults.Rule.TheVariants.{DataLength, ListLength}
use Rattle.books.specs.Books.{Agree}
use Rattle.cells.specs.Cells.{Sound, repeated, or_fault}
use Rattle.cells.specs.CellLaws.{then_sound, repeated_sound}
use Rattle.cells.specs.CodeLaws.{tested, found}
use Rattle.cells.specs.Layouts.{Layout, whole, fitted, layout_reading, layout_writing, Fitting}

-- ---- how many groups a length holds
pub fitted_parts : (many : ℕ → Bool) (first each n k : ℕ) → fitted many first each n ≡ Some k → (n ≡ first + k * each) × (many k ≡ true)
fitted_parts many first each n k h =
    let t = tested (n == first + (n - first) / each * each && many ((n - first) / each)) ((n - first) / each) k h in
    let p = and_parts (n == first + (n - first) / each * each) (many ((n - first) / each)) t.0 in
    let e = t.1 in
    (rw e at (eqb-true _ _ p.0), rw e at p.1)

pub fitted_from : (many : ℕ → Bool) (first each n k : ℕ) → 0 < each → n ≡ first + k * each → many k ≡ true → fitted many first each n ≡ Some k
fitted_from many first each n k l e m =
    let q : (n - first) / each ≡ k = ap (λ x. (x - first) / each) e ∙ ap (λ x. x / each) (add-sub_cancel_left first (k * each)) ∙ mul-div_cancel k l in
    let b : nat_eq n (first + k * each) ≡ true = eq-eqb _ _ e in
    rw (q, b, m)

-- ---- what an accepted field and an accepted list are, and that these are accepted
pub layout_read : (l : Layout) (field : List ℕ) (list : List ℤ) → layout_reading l field ≡ Ok list → (k : ℕ) × (length field ≡ (whole l k).size) × (l.many k ≡ true) × ((whole l k).reading 0 field ≡ Ok list)
layout_read l field list h =
    let a = went_on (or_fault DataLength (length field) (fitted l.many l.head.size l.group.size (length field))) _ h in
    let p = fitted_parts l.many l.head.size l.group.size (length field) a.0 (found DataLength (length field) _ a.0 a.1) in
    (a.0, p.0, p.1, a.2)

pub layout_written : (l : Layout) (list : List ℤ) (field : List ℕ) → layout_writing l list ≡ Ok field → (k : ℕ) × (length list ≡ (whole l k).count) × (l.many k ≡ true) × ((whole l k).writing 0 list ≡ Ok field)
layout_written l list field h =
    let a = went_on (or_fault ListLength (length list) (fitted l.many l.head.count l.group.count (length list))) _ h in
    let p = fitted_parts l.many l.head.count l.group.count (length list) a.0 (found ListLength (length list) _ a.0 a.1) in
    (a.0, p.0, p.1, a.2)

pub whole_sound : (l : Layout) → Sound l.head → Sound l.group → (k : ℕ) → Sound (whole l k)
whole_sound l s t k = then_sound l.head (repeated k l.group) s (repeated_sound k l.group t)

-- ---- the laws
pub layout_agree : (l : Layout) → Sound l.head → Sound l.group → Fitting l → Agree (layout_reading l) (layout_writing l)
layout_agree l s t f = record {
  written = λ list field _ h.
      let p = layout_written l list field h in
      let w = (whole_sound l s t p.0).written 0 list field p.1 p.3 in
      let k = fitted_from l.many l.head.size l.group.size (length field) p.0 f.some_bytes w.0 p.2 in
      rw k (w.2 0);
  reads = λ field list b h.
      let p = layout_read l field list h in
      let q = whole_sound l s t p.0 in
      let w = q.reads 0 field list p.1 b p.3 in
      let n = q.counted 0 field list p.1 p.3 in
      let k = fitted_from l.many l.head.count l.group.count (length list) p.0 f.some_numbers n p.2 in
      rw k (w.1 0);
  bytes = λ list field _ h.
      let p = layout_written l list field h in
      ((whole_sound l s t p.0).written 0 list field p.1 p.3).1;
  numbers = λ field list b h.
      let p = layout_read l field list h in
      ((whole_sound l s t p.0).reads 0 field list p.1 b p.3).0;
  even = λ field list h. let p = layout_read l field list h in let e = p.1 in let g = f.even p.0 p.2 in omega arith;
  short = λ field list h. let p = layout_read l field list h in let e = p.1 in let g = f.short p.0 p.2 in omega arith;
  few = λ field list h.
      let p = layout_read l field list h in
      let n = (whole_sound l s t p.0).counted 0 field list p.1 p.3 in
      let g = f.few p.0 p.2 in
      omega arith;
}
