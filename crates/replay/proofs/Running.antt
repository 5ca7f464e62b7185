-- One step more of a run.
use Rattle.std.proofs.Common.{◌≡◌, ℕ, ◌+◌, ◌-◌, ◌<◌, ◌≤◌, drop, min, Bool, true, false, cond, List, [], ◌∷◌, ◌++◌, length, get_or, set, take, Ok, Err, Result, sym, refl, ap, ◌∙◌, subst, ap₂, arith}
use Rattle.std.proofs.lemmas.List.{append-nil, append_assoc, length-append, length-take-le, take_min, take_more, take_more_set, take-append-drop, drop-set-lt, drop-drop}
use Rattle.books.specs.Books.{Meaning, Lawful}
use Rattle.judging.specs.declared.faults.Refusal.{Refusal}
use Rattle.judging.specs.declared.places.Phase.{Phase}
use Rattle.judging.specs.declared.places.Phase.TheVariants.{Opened, Shut}
use Rattle.products.specs.Products.{Product, as_closed}
use Rattle.products.specs.Calls.{Call, adds, replaces, withdraws, closes, reopens, wants, Stored, outcome}
use Rattle.sending.specs.Sending.{pairs_in, sending}
use Rattle.sinks.specs.Sinks.{Took}
use Rattle.sinks.proofs.Pairing.{took_none, took_more}
use Rattle.lives.specs.Lives.{World, Typed, Step as LifeStep, called, sends as sends_on, goes_on}
use Rattle.lives.proofs.Living.{sending_told, one_life}
use Rattle.replay.specs.Entries.{entered}
use Rattle.replay.specs.declared.steps.Step.{Step}
use Rattle.replay.specs.declared.steps.Step.TheVariants.{Add, Replace, Withdraw, Close, Reopen, Send}
use Rattle.replay.specs.declared.steps.Told.{Told}
use Rattle.replay.specs.declared.steps.Told.TheVariants.{NotAllowed, Refused, Made, Sent}
use Rattle.replay.specs.Steps.{Scene, passed_over, told_call, told_sending, same_phase, calls, sends, played, TypedIn, Sunk}
use Rattle.replay.specs.Replays.{Run, followed_by, run, run_told, places_after, Lived}

-- ---- a run and then a step
abbrev pub then_step : Run → Scene → Run
then_step x y = record { told = x.told ++ (y.told ∷ []); product = y.product; memory = y.memory; put = x.put ++ y.put }

pub run_snoc : (M : Meaning) (room : ℕ) (p : Product) (mem : List ℕ) (steps : List Step) (s : Step)
    → run M room p mem (steps ++ (s ∷ [])) ≡ then_step (run M room p mem steps) (played M (room - length (run M room p mem steps).put) (run M room p mem steps).product (run M room p mem steps).memory s)
unfolding run
run_snoc M room p mem [] s =
    let e : room - 0 ≡ room = omega arith in
    let x = played M room p mem s in
    ap (λ u. record { told = x.told ∷ []; product = x.product; memory = x.memory; put = u }) (append-nil x.put)
    ∙ ap (λ r. then_step (run M room p mem []) (played M r p mem s)) (sym e)
run_snoc M room p mem (t ∷ steps) s =
    let x = played M room p mem t in
    let y = run M (room - length x.put) x.product x.memory steps in
    let e : (room - length x.put) - length y.put ≡ room - length (x.put ++ y.put) = omega (arith, length-append x.put y.put) in
    let z = played M (room - length (x.put ++ y.put)) y.product y.memory s in
    ap (followed_by x) (run_snoc M (room - length x.put) x.product x.memory steps s ∙ ap (λ r. then_step y (played M r y.product y.memory s)) e)
    ∙ ap (λ u. record { told = x.told ∷ (y.told ++ (z.told ∷ [])); product = z.product; memory = z.memory; put = u }) (sym (append_assoc x.put y.put z.put))

-- ---- pairs are put by accepted sendings alone
Puts : List ℕ → Told → Type 0
Puts ps (Sent n) = Unit {0}
Puts ps NotAllowed = ps ≡ []
Puts ps (Refused e) = ps ≡ []
Puts ps (Made bytes blocks) = ps ≡ []

puts_call : (w : Result Stored Refusal) (p : Product) (mem : List ℕ) → Puts (told_call w p mem).put (told_call w p mem).told
unfolding Puts
puts_call (Ok x) p mem = refl
puts_call (Err e) p mem = refl

puts_sending : (w : Result ℕ Refusal) (p : Product) (mem : List ℕ) → Puts (told_sending w p mem).put (told_sending w p mem).told
unfolding Puts
puts_sending (Ok n) p mem = tt
puts_sending (Err e) p mem = refl

puts_if : (b : Bool) (x : Scene) (p : Product) (mem : List ℕ) → Puts x.put x.told → Puts (cond b x (passed_over p mem)).put (cond b x (passed_over p mem)).told
unfolding Puts
puts_if true x p mem h = h
puts_if false x p mem h = refl

puts : (M : Meaning) (room : ℕ) (p : Product) (mem : List ℕ) (s : Step) → Puts (played M room p mem s).put (played M room p mem s).told
puts M room p mem (Add e) = puts_if (same_phase p.phase Opened) _ p mem (puts_call (outcome M mem p (adds (entered e))) p mem)
puts M room p mem (Replace k e) = puts_if (same_phase p.phase Opened) _ p mem (puts_call (outcome M mem p (replaces k (entered e))) p mem)
puts M room p mem (Withdraw k) = puts_if (same_phase p.phase Opened) _ p mem (puts_call (outcome M mem p (withdraws k)) p mem)
puts M room p mem Close = puts_if (same_phase p.phase Opened) _ p mem (puts_call (outcome M mem p closes) p mem)
puts M room p mem Reopen = puts_if (same_phase p.phase Shut) _ p mem (puts_call (outcome M mem p reopens) p mem)
puts M room p mem Send = puts_if (same_phase p.phase Shut) _ p mem (puts_sending (sending M mem (as_closed p) room) p mem)

module _ {S : Type 0} (taken : S → List ℕ) (room : S → ℕ) (wrote : S → List ℕ → S → Type 0) where
  same_sink : (s t u : S) (ps qs : List ℕ) → Took taken room wrote s ps t → qs ≡ [] → u ≡ t → Took taken room wrote s (ps ++ qs) u
  same_sink s t u ps qs k e f = subst (λ v. Took taken room wrote s (ps ++ qs) v) (sym f) (subst (λ v. Took taken room wrote s v t) (sym (ap (λ v. ps ++ v) e ∙ append-nil ps)) k)

  sunk_by : (told : Told) (s t u : S) (ps qs : List ℕ) → Puts qs told → Took taken room wrote s ps t → Sunk taken room wrote t qs u told → Took taken room wrote s (ps ++ qs) u
  unfolding Puts
  sunk_by (Sent n) s t u ps qs h k l = took_more S taken room wrote s t u ps qs k l
  sunk_by NotAllowed s t u ps qs h k l = same_sink s t u ps qs k h l
  sunk_by (Refused e) s t u ps qs h k l = same_sink s t u ps qs k h l
  sunk_by (Made bytes blocks) s t u ps qs h k l = same_sink s t u ps qs k h l

  pub sunk_more : (M : Meaning) (free : ℕ) (p : Product) (mem : List ℕ) (step : Step) (s t u : S) (ps : List ℕ) (told : Told) → Took taken room wrote s ps t → told ≡ (played M free p mem step).told
      → Sunk taken room wrote t (played M free p mem step).put u told → Took taken room wrote s (ps ++ (played M free p mem step).put) u
  sunk_more M free p mem step s t u ps told k e l =
      sunk_by told s t u ps (played M free p mem step).put (subst (Puts (played M free p mem step).put) (sym e) (puts M free p mem step)) k l

-- ---- a step more of a life
module _ {S : Type 0} (taken : S → List ℕ) (room : S → ℕ) (wrote : S → List ℕ → S → Type 0) (M : Meaning) (L : Lawful M) where
  abbrev Living : S → Product → List ℕ → S → Type 0
  Living s p mem t = Lived taken room M s p mem t

  goes : (s : S) (p : Product) (mem : List ℕ) (t : S) (l : Living s p mem t) (v : World S) → LifeStep taken room M l.world v → Living s v.product v.memory v.sink
  goes s p mem t l v k = let life = goes_on l.life k in record { world = v; life = life; product_is = refl; memory_is = refl; sink_is = refl; law = one_life taken room M L s v life }

  module _ (s : S) (p : Product) (mem : List ℕ) (t : S) (l : Living s p mem t) where
    phase_is : (ph : Phase) → p.phase ≡ ph → l.world.product.phase ≡ ph
    phase_is ph e = ap (λ q. q.phase) l.product_is ∙ e

    there : (c : Call) → outcome M l.world.memory l.world.product c ≡ outcome M mem p c
    there c = ap₂ (λ m q. outcome M m q c) l.memory_is l.product_is

    sending_there : (n : Result ℕ Refusal) → sending M mem (as_closed p) (room t) ≡ n → sending M l.world.memory (as_closed l.world.product) (room l.world.sink) ≡ n
    sending_there n h =
        ap₂ (λ m q. sending M m (as_closed q) (room l.world.sink)) l.memory_is l.product_is ∙ ap (λ u. sending M mem (as_closed p) (room u)) l.sink_is ∙ h

    lived_call : (c : Call) → Typed c → p.phase ≡ wants c → (w : Result Stored Refusal) → outcome M mem p c ≡ w → Living s (told_call w p mem).product (told_call w p mem).memory t
    lived_call c known e (Ok x) h =
        subst (λ u. Living s x.product x.memory u) l.sink_is (goes s p mem t l _ (called c x known (phase_is (wants c) e) (there c ∙ h)))
    lived_call c known e (Err r) h = l

    lived_if : (c : Call) → (p.phase ≡ wants c → Typed c) → (ph : Phase) → wants c ≡ ph → (q : Phase) → p.phase ≡ q
        → Living s (cond (same_phase q ph) (told_call (outcome M mem p c) p mem) (passed_over p mem)).product (cond (same_phase q ph) (told_call (outcome M mem p c) p mem) (passed_over p mem)).memory t
    lived_if c known Opened e Opened f = lived_call c (known (f ∙ sym e)) (f ∙ sym e) (outcome M mem p c) refl
    lived_if c known Opened e Shut f = l
    lived_if c known Shut e Opened f = l
    lived_if c known Shut e Shut f = lived_call c (known (f ∙ sym e)) (f ∙ sym e) (outcome M mem p c) refl

    -- a call leaves the sink
    still_call : (w : Result Stored Refusal) (u : S) (ps : List ℕ) → Sunk taken room wrote t ps u (told_call w p mem).told → u ≡ t
    still_call (Ok x) u ps k = k
    still_call (Err e) u ps k = k

    still : (b : Bool) (w : Result Stored Refusal) (u : S) (ps : List ℕ) → Sunk taken room wrote t ps u (cond b (told_call w p mem) (passed_over p mem)).told → u ≡ t
    still true w u ps k = still_call w u ps k
    still false w u ps k = k

    lived_calls : (c : Call) → (p.phase ≡ wants c → Typed c) → (u : S) (ps : List ℕ) → Sunk taken room wrote t ps u (calls M p mem c).told → Living s (calls M p mem c).product (calls M p mem c).memory u
    lived_calls c known u ps k =
        subst (λ v. Living s (calls M p mem c).product (calls M p mem c).memory v) (sym (still (same_phase p.phase (wants c)) (outcome M mem p c) u ps k)) (lived_if c known (wants c) refl p.phase refl)

    lived_sending : (u : S) (w : Result ℕ Refusal) → p.phase ≡ Shut → sending M mem (as_closed p) (room t) ≡ w → Sunk taken room wrote t (told_sending w p mem).put u (told_sending w p mem).told
        → Living s (told_sending w p mem).product (told_sending w p mem).memory u
    lived_sending u (Ok n) e h k =
        let pairs : pairs_in mem (as_closed p) ≡ pairs_in l.world.memory (as_closed l.world.product) = ap₂ (λ m q. pairs_in m (as_closed q)) (sym l.memory_is) (sym l.product_is) in
        let all = k.all ∙ ap₂ (λ v ps. taken v ++ ps) (sym l.sink_is) pairs in
        let left : room u + n ≡ room l.world.sink = ap (λ j. room u + j) (sending_told M mem p (room t) n h) ∙ k.left ∙ ap room (sym l.sink_is) in
        let v = goes s p mem t l _ (sends_on n u (phase_is Shut e) (sending_there (Ok n) h) all left) in
        subst (λ q. Living s q mem u) l.product_is (subst (λ m. Living s l.world.product m u) l.memory_is v)
    lived_sending u (Err r) e h k = subst (λ v. Living s p mem v) (sym k) l

    lived_send_if : (u : S) (q : Phase) → p.phase ≡ q → (x : Scene) → x ≡ cond (same_phase q Shut) (told_sending (sending M mem (as_closed p) (room t)) p mem) (passed_over p mem)
        → Sunk taken room wrote t x.put u x.told → Living s x.product x.memory u
    lived_send_if u Opened e x f k =
        let unmoved : u ≡ t = subst (λ y. Sunk taken room wrote t y.put u y.told) f k in
        subst (λ y. Living s y.product y.memory u) (sym f) (subst (λ v. Living s p mem v) (sym unmoved) l)
    lived_send_if u Shut e x f k =
        subst (λ y. Living s y.product y.memory u) (sym f) (lived_sending u _ e refl (subst (λ y. Sunk taken room wrote t y.put u y.told) f k))

    by_step : (step : Step) (u : S) → TypedIn p.phase step → Sunk taken room wrote t (played M (room t) p mem step).put u (played M (room t) p mem step).told
        → Living s (played M (room t) p mem step).product (played M (room t) p mem step).memory u
    by_step (Add x) u known k = lived_calls (adds (entered x)) (λ e. subst (λ ph. TypedIn ph (Add x)) e known) u _ k
    by_step (Replace b x) u known k = lived_calls (replaces b (entered x)) (λ e. subst (λ ph. TypedIn ph (Replace b x)) e known) u _ k
    by_step (Withdraw b) u known k = lived_calls (withdraws b) (λ e. tt) u _ k
    by_step Close u known k = lived_calls closes (λ e. tt) u _ k
    by_step Reopen u known k = lived_calls reopens (λ e. tt) u _ k
    by_step Send u known k = lived_send_if u p.phase refl (sends M (room t) p mem) refl k

    pub lived_more : (step : Step) (u : S) (told : Told) → TypedIn p.phase step → told ≡ (played M (room t) p mem step).told → Sunk taken room wrote t (played M (room t) p mem step).put u told
        → Living s (played M (room t) p mem step).product (played M (room t) p mem step).memory u
    lived_more step u told known e k = by_step step u known (subst (Sunk taken room wrote t (played M (room t) p mem step).put u) e k)

-- ---- the loop
ap₃ : {A B C D : Type 0} (g : A → B → C → D) {a a' : A} {b b' : B} {c c' : C} → a ≡ a' → b ≡ b' → c ≡ c' → g a b c ≡ g a' b' c'
ap₃ g p q r = λ i. g (p i) (q i) (r i)

pub lived_as : {S : Type 0} (taken : S → List ℕ) (room : S → ℕ) (M : Meaning) (s : S) (p q : Product) (mem after : List ℕ) (t : S) → Lived taken room M s p mem t → q ≡ p → after ≡ mem → Lived taken room M s q after t
lived_as taken room M s p q mem after t l e f =
    record { world = l.world; life = l.life; product_is = l.product_is ∙ sym e; memory_is = l.memory_is ∙ sym f; sink_is = l.sink_is; law = l.law }

next_more : {X : Type 0} (xs : List X) (i : ℕ) (x : X) → i < length xs → x ≡ get_or xs i x → take (i + 1) xs ≡ take i xs ++ (x ∷ [])
next_more xs i x place here = take_more xs i x place ∙ ap (λ y. take i xs ++ (y ∷ [])) (sym here)

module _ {S : Type 0} (taken : S → List ℕ) (room : S → ℕ) (wrote : S → List ℕ → S → Type 0) (M : Meaning) (s : S) (p : Product) (mem : List ℕ) (steps : List Step) (places : List Told) where
  -- all that the first i steps make
  abbrev pub so_far : ℕ → Run
  so_far i = run M (room s) p mem (take i steps)

  -- those steps are done, told at the first i places, and left this product, memory and sink
  pub record SoFar (i : ℕ) (told : List Told) (q : Product) (after : List ℕ) (t : S) : Type 0 where
    pub within : i ≤ length steps
    pub told_is : take i told ≡ (so_far i).told
    pub untold : drop i told ≡ drop i places
    pub product_is : q ≡ (so_far i).product
    pub memory_is : after ≡ (so_far i).memory
    pub took : Took taken room wrote s (so_far i).put t
    pub lived : Lived taken room M s p mem s → Lived taken room M s q after t

  pub none_so_far : wrote s [] s → SoFar 0 places p mem s
  unfolding run
  none_so_far w = record {
    within = omega arith;
    told_is = refl;
    untold = refl;
    product_is = refl;
    memory_is = refl;
    took = took_none _ taken room wrote s w;
    lived = λ l. l;
  }

  pub more_so_far : Lawful M → (i : ℕ) (told : List Told) (q q' : Product) (after after' : List ℕ) (t t' : S) (step : Step) (what : Told) → SoFar i told q after t → i < length steps → step ≡ get_or steps i step → i < length told
      → TypedIn q.phase step → what ≡ (played M (room t) q after step).told → q' ≡ (played M (room t) q after step).product → after' ≡ (played M (room t) q after step).memory
      → Sunk taken room wrote t (played M (room t) q after step).put t' what → SoFar (i + 1) (set told i what) q' after' t'
  more_so_far L i told q q' after after' t t' step what l fewer next place known told_is product_is memory_is sunk =
      let free : room s - length (so_far i).put ≡ room t = omega (arith, l.took.left) in
      let more : so_far (i + 1) ≡ then_step (so_far i) (played M (room t) q after step) = ap (run M (room s) p mem) (next_more steps i step fewer next) ∙ run_snoc M (room s) p mem (take i steps) step ∙ ap (then_step (so_far i)) (ap₃ (λ r u v. played M r u v step) free (sym l.product_is) (sym l.memory_is)) in
      let took = sunk_more taken room wrote M _ q after step s t t' _ what l.took told_is sunk in
      record {
        within = omega (arith, fewer);
        told_is = take_more_set told i what place ∙ ap₂ (λ u v. u ++ (v ∷ [])) l.told_is told_is ∙ sym (ap (λ x. x.told) more);
        untold = drop-set-lt (i + 1) told i what (omega arith) ∙ sym (drop-drop 1 i told) ∙ ap (drop 1) l.untold ∙ drop-drop 1 i places;
        product_is = product_is ∙ sym (ap (λ x. x.product) more);
        memory_is = memory_is ∙ sym (ap (λ x. x.memory) more);
        took = subst (λ ps. Took taken room wrote s ps t') (sym (ap (λ x. x.put) more)) took;
        lived = λ k. lived_as taken room M s _ q' _ after' t' (lived_more taken room wrote M L s q after t (l.lived k) step t' what known told_is sunk) product_is memory_is;
      }

  -- the steps are done for which there are places
  pub record AllDone (told : List Told) (q : Product) (after : List ℕ) (t : S) : Type 0 where
    pub told_is : told ≡ places_after (run_told M (room s) p mem steps places) places
    pub product_is : q ≡ (run_told M (room s) p mem steps places).product
    pub memory_is : after ≡ (run_told M (room s) p mem steps places).memory
    pub took : Took taken room wrote s (run_told M (room s) p mem steps places).put t

  pub all_done : (i : ℕ) (told : List Told) (q : Product) (after : List ℕ) (t : S) → SoFar i told q after t → length told ≡ length places → i ≡ min (length places) (length steps) → AllDone told q after t
  all_done i told q after t l long end =
      let all : so_far i ≡ run_told M (room s) p mem steps places = ap so_far end ∙ ap (run M (room s) p mem) (take_min (length places) steps) in
      let first : length (take i told) ≡ i = length-take-le i told (omega (arith, long)) in
      let told_is : told ≡ places_after (so_far i) places = sym (take-append-drop i told) ∙ ap₂ ◌++◌ l.told_is l.untold ∙ ap (λ n. (so_far i).told ++ drop n places) (sym first ∙ ap length l.told_is) in
      record {
        told_is = told_is ∙ ap (λ x. places_after x places) all;
        product_is = l.product_is ∙ ap (λ x. x.product) all;
        memory_is = l.memory_is ∙ ap (λ x. x.memory) all;
        took = subst (λ ps. Took taken room wrote s ps t) (ap (λ x. x.put) all) l.took;
      }
