-- The recursive step, as its code makes it: what is known in each turn of its loop (`Turn`), and what each answer
-- says of the definitions in specs/private/Below.antt. The rows of the unpicked gauges are u here, and there are k
-- such gauges.
use mathlib.Core.Path.{◌≡◌, refl, sym, ap, ap₂, ◌∙◌}
use mathlib.Core.Bool.{Bool, true, false, not, cond}
use mathlib.Core.List.{List}
use Prim.Native.Nat.{ℕ, zero, suc, ◌+◌, ◌-◌, ◌≤◌, ◌<◌}
use native.Mathlib.Decide.{dec_lt}
use native.Mathlib.Omega.{arith}
use lib.Bits.{bit_and}
use lib.Count.{ones}
use lib.Dec.{leb}
use lib.ListN.{get_or, set}
use borrow.Author.Tests.{le-leb, lt-leb, leb-true, leb-false}
use Rattle.basics.proofs.Clash.{clash}
use Rattle.sets.specs.Sets.{meet}
use Rattle.sets.specs.Lists.{all_below}
use Rattle.sets.specs.First.{Without}
use Rattle.sets.proofs.Tests.{is_true}
use Rattle.sets.proofs.Tabulated.{all_of, all_fails}
use Rattle.table.specs.Pairs.{row}
use Rattle.search.specs.Finding.{FirstOf, within}
use Rattle.count.specs.private.Below.{sum_below, is_candidate, calls_in, ladders_in, tallied}
use Rattle.count.specs.declared.Tally.{Tally}
use Rattle.std.specs.Prelude.{Option, Some, None}
use Rattle.count.proofs.Sums.{sum_in, sum_skip, sum_none, sum_mono, sum_le}
use Rattle.count.proofs.Unpicked.{some_unpicked, one_fewer, rows_fewer, own_row}

-- ---- answers
tallied_whole : (b l c : ℕ) → c ≤ b → Some (record { ladders = l; calls = c }) ≡ tallied b l c
unfolding tallied
tallied_whole b l c h = rw (le-leb c b h)

tallied_spent : (b l c : ℕ) → b < c → None ≡ tallied b l c
unfolding tallied
tallied_spent b l c h = rw (lt-leb c b h)

-- what a tally says, and what its absence says
pub record Says (b l c : ℕ) (t : Tally) : Type 0 where
  pub fits : c ≤ b
  pub ladders : t.ladders ≡ l
  pub calls : t.calls ≡ c

abbrev tally_of : Tally → Option Tally → Tally
tally_of d (Some t) = t
tally_of d None = d

module _ (b l c : ℕ) (x : Option Tally) (e : x ≡ tallied b l c) where
  abbrev by : Bool → Option Tally
  by v = cond v (Some (record { ladders = l; calls = c })) None

  told : (v : Bool) → leb c b ≡ v → x ≡ by v
  unfolding tallied
  told v w = e ∙ ap by w

  pub whole_says : (t : Tally) → x ≡ Some t → Says b l c t
  whole_says t d = go (leb c b) refl
    where
      go : (v : Bool) → leb c b ≡ v → Says b l c t
      go true w =
          let k : Some t ≡ by true = sym d ∙ told true w in
          record { fits = leb-true c b w; ladders = ap (λ (y : Option Tally). (tally_of t y).ladders) k; calls = ap (λ (y : Option Tally). (tally_of t y).calls) k }
      go false w =
          let k : Some t ≡ None = sym d ∙ told false w in
          clash cc

  pub spent_says : x ≡ None → b < c
  spent_says d = go (leb c b) refl
    where
      go : (v : Bool) → leb c b ≡ v → b < c
      go true w =
          let k : None ≡ by true = sym d ∙ told true w in
          clash cc
      go false w = leb-false c b w

-- ---- the definitions by their clauses
calls_pos : (k : ℕ) (u : List ℕ) (left : ℕ) → 1 ≤ calls_in k u left
unfolding calls_in
calls_pos zero u left = omega arith
calls_pos (suc k) u left = omega arith

ladders_calls : (k : ℕ) (u : List ℕ) (left : ℕ) → ladders_in k u left ≤ calls_in k u left
unfolding calls_in ladders_in
ladders_calls zero u left = omega arith
ladders_calls (suc k) u left =
    go (all_below (λ g. not (is_candidate u left g)) 64)
    (sum_le (is_candidate u left) ladders_at calls_at 64 (λ g. ladders_calls k (set u g 0) (meet (row u g) left)))
  where
    ladders_at : ℕ → ℕ
    ladders_at g = ladders_in k (set u g 0) (meet (row u g) left)

    calls_at : ℕ → ℕ
    calls_at g = calls_in k (set u g 0) (meet (row u g) left)

    go : {a b : ℕ} → (v : Bool) → a ≤ b → cond v 1 a ≤ suc b
    go true h = omega arith
    go false h = omega arith

module _ (u : List ℕ) (left : ℕ) where
  abbrev cand : ℕ → Bool
  cand = is_candidate u left

  -- no candidate
  calls_none : (k : ℕ) → ((i : ℕ) → i < 64 → cand i ≡ false) → calls_in k u left ≡ 1
  unfolding calls_in
  calls_none zero h = refl
  calls_none (suc k) h = ap suc (sum_none cand (λ g. calls_in k (set u g 0) (meet (row u g) left)) 64 h)

  pub ladders_none : (k : ℕ) → ((i : ℕ) → i < 64 → cand i ≡ false) → ladders_in k u left ≡ 1
  unfolding ladders_in
  ladders_none zero h = refl
  ladders_none (suc k) h =
      ap (λ (b : Bool). cond b 1 (sum_below cand (λ g. ladders_in k (set u g 0) (meet (row u g) left)) 64))
      (is_true (all_below (λ g. not (cand g)) 64) (all_of (λ g. not (cand g)) 64 (λ i l. rw (h i l) tt)))

  -- the calls and the leaves below the picks and i
  abbrev calls_at : ℕ → ℕ → ℕ
  calls_at k i = calls_in k (set u i 0) (meet (row u i) left)

  abbrev ladders_at : ℕ → ℕ → ℕ
  ladders_at k i = ladders_in k (set u i 0) (meet (row u i) left)

  -- a candidate
  calls_some : (k : ℕ) → calls_in (suc k) u left ≡ suc (sum_below cand (calls_at k) 64)
  unfolding calls_in
  calls_some k = refl

  pub ladders_some : (k g : ℕ) → g < 64 → cand g ≡ true → ladders_in (suc k) u left ≡ sum_below cand (ladders_at k) 64
  unfolding ladders_in
  ladders_some k g l d =
      ap (λ (b : Bool). cond b 1 (sum_below cand (ladders_at k) 64)) (sym (all_fails (λ i. not (cand i)) 64 g false l (ap not (sym d)) refl))

-- ---- the loop
-- the next candidate, or the end, is above the last
next_above : (c : ℕ → Bool) (g h : ℕ) → g < 64 → FirstOf c (g + 1) 64 h → g < h
next_above c g h l f = go (dec_lt h 64)
  where
    go : Dec (h < 64) → g < h
    go (yes y) = omega (arith, (f.found y).0)
    go (no y) = omega (arith, f.none (omega arith))

-- the set s of the unpicked gauges: the candidates, and the calls and the leaves below each
module _ (rows : List ℕ) (s left : ℕ) where
  abbrev pub can : ℕ → Bool
  can = is_candidate (within s rows) left

  abbrev pub calls_of : ℕ → ℕ
  calls_of g = calls_in (ones s - 1) (set (within s rows) g 0) (meet (row (within s rows) g) left)

  abbrev pub ladders_of : ℕ → ℕ
  ladders_of g = ladders_in (ones s - 1) (set (within s rows) g 0) (meet (row (within s rows) g) left)

  abbrev pub all_calls : ℕ
  all_calls = calls_in (ones s) (within s rows) left

  abbrev pub all_ladders : ℕ
  all_ladders = ladders_in (ones s) (within s rows) left

  some_call : (g : ℕ) → 1 ≤ calls_of g
  some_call g = calls_pos (ones s - 1) (set (within s rows) g 0) (meet (row (within s rows) g) left)

  no_more : (g : ℕ) → ladders_of g ≤ calls_of g
  no_more g = ladders_calls (ones s - 1) (set (within s rows) g 0) (meet (row (within s rows) g) left)

-- what is known where the loop reaches g: it is a candidate or past the last, the calls and the leaves are those
-- below the candidates before g, and the budget is not passed
pub record Turn (rows : List ℕ) (s left b ladders calls g : ℕ) : Type 0 where
  pub place : g ≤ 64
  pub here : g < 64 → can rows s left g ≡ true
  pub most : calls ≤ b
  pub calls_are : calls ≡ suc (sum_below (can rows s left) (calls_of rows s left) g)
  pub ladders_are : ladders ≡ sum_below (can rows s left) (ladders_of rows s left) g
  pub all_calls_is : all_calls rows s left ≡ suc (sum_below (can rows s left) (calls_of rows s left) 64)
  pub all_ladders_is : all_ladders rows s left ≡ sum_below (can rows s left) (ladders_of rows s left) 64

-- the lowest candidate from a place on
high : (c : ℕ → Bool) (from g : ℕ) → FirstOf c from 64 g → g ≤ 64
high c from g f = go (dec_lt g 64)
  where
    go : Dec (g < 64) → g ≤ 64
    go (yes l) = omega arith
    go (no l) = omega (arith, f.none (omega arith))

module _ (rows : List ℕ) (s left b g : ℕ) (f : FirstOf (can rows s left) 0 64 g) (some : 0 < b) where
  -- the first search finds none: a leaf
  pub leaf : 64 ≤ g → Some (record { ladders = 1; calls = 1 }) ≡ tallied b (all_ladders rows s left) (all_calls rows s left)
  leaf h =
      tallied_whole b 1 1 some
      ∙ ap₂ (tallied b) (sym (ladders_none (within s rows) left (ones s) none)) (sym (calls_none (within s rows) left (ones s) none))
    where
      none : (i : ℕ) → i < 64 → can rows s left i ≡ false
      none i l = f.least i (omega arith) (omega arith)

  -- it finds one: the first turn
  pub turn_first : g < 64 → Turn rows s left b 0 1 g
  turn_first l = record {
    place = high (can rows s left) 0 g f;
    here = λ y. (f.found y).1;
    most = some;
    calls_are = ap suc (sym (sum_none (can rows s left) (calls_of rows s left) g (λ i h. f.least i (omega arith) h)));
    ladders_are = sym (sum_none (can rows s left) (ladders_of rows s left) g (λ i h. f.least i (omega arith) h));
    all_calls_is = ap (λ (k : ℕ). calls_in k (within s rows) left) more ∙ calls_some (within s rows) left (ones s - 1);
    all_ladders_is = ap (λ (k : ℕ). ladders_in k (within s rows) left) more ∙ ladders_some (within s rows) left (ones s - 1) g l (f.found l).1;
  }
    where
      more : ones s ≡ suc (ones s - 1)
      more = omega (arith, some_unpicked rows s left g l (f.found l).1)

module _ {rows : List ℕ} {s left b ladders calls g : ℕ} (t : Turn rows s left b ladders calls g) where
  -- past the last: the whole count
  pub turn_last : 64 ≤ g → Some (record { ladders = ladders; calls = calls }) ≡ tallied b (all_ladders rows s left) (all_calls rows s left)
  turn_last h =
      let e : g ≡ 64 = omega (arith, t.place) in
      tallied_whole b ladders calls t.most
      ∙ ap₂ (tallied b)
      (t.ladders_are ∙ ap (sum_below (can rows s left) (ladders_of rows s left)) e ∙ sym t.all_ladders_is)
      (t.calls_are ∙ ap (λ (j : ℕ). suc (sum_below (can rows s left) (calls_of rows s left) j)) e ∙ sym t.all_calls_is)

  module _ (l : g < 64) where
    upto : (v : ℕ → ℕ) → sum_below (can rows s left) v (suc g) ≡ sum_below (can rows s left) v g + v g
    upto v = sum_in (can rows s left) v g (t.here l)

    -- the calls so far and those below g are among all
    among : calls + calls_of rows s left g ≤ all_calls rows s left
    among = omega (arith, t.calls_are, t.all_calls_is, upto (calls_of rows s left), sum_mono (can rows s left) (calls_of rows s left) (suc g) 64 l)

    -- the budget is used up and g is still to come
    pub turn-full : calls ≡ b → None ≡ tallied b (all_ladders rows s left) (all_calls rows s left)
    turn-full e = tallied_spent b (all_ladders rows s left) (all_calls rows s left) (omega (arith, among, some_call rows s left g))

    -- one gauge fewer is unpicked
    module _ {r : ℕ} (w : Without s g r) where
      fewer : ones s ≡ suc (ones r)
      fewer = one_fewer rows s left g l (t.here l) r w

      pub turn-falls : ones r < ones s
      turn-falls = omega (arith, fewer)

      -- the count below g came back
      module _ {x : Option Tally} (e : x ≡ tallied (b - calls) (all_ladders rows r (bit_and (get_or rows g 0) left)) (all_calls rows r (bit_and (get_or rows g 0) left))) where
        below : x ≡ tallied (b - calls) (ladders_of rows s left g) (calls_of rows s left g)
        unfolding meet
        below =
            let k : ones r ≡ ones s - 1 = omega (arith, fewer) in
            e ∙ rw (k, rows_fewer rows s left g l (t.here l) r w, own_row rows s left g l (t.here l))

        pub turn-spent : x ≡ None → None ≡ tallied b (all_ladders rows s left) (all_calls rows s left)
        turn-spent d =
            tallied_spent b (all_ladders rows s left) (all_calls rows s left)
            (omega (arith, among, spent_says (b - calls) (ladders_of rows s left g) (calls_of rows s left g) x below d))

        module _ {y : Tally} (d : x ≡ Some y) where
          says : Says (b - calls) (ladders_of rows s left g) (calls_of rows s left g) y
          says = whole_says (b - calls) (ladders_of rows s left g) (calls_of rows s left g) x below y d

          -- no sum passes the budget: there are no more ladders than calls, so far and below g
          pub turn-calls : calls + y.calls ≤ b
          turn-calls = omega (arith, says.calls, says.fits, t.most)

          pub turn-fewer : (ladders ≤ calls) × (y.ladders ≤ y.calls)
          turn-fewer = (
            omega (arith, t.calls_are, t.ladders_are, sum_le (can rows s left) (ladders_of rows s left) (calls_of rows s left) g (no_more rows s left)),
            omega (arith, says.ladders, says.calls, no_more rows s left g),
          )

          pub turn-next : {h : ℕ} → FirstOf (can rows s left) (g + 1) 64 h → Turn rows s left b (ladders + y.ladders) (calls + y.calls) h
          turn-next {h} f = record {
            place = high (can rows s left) (g + 1) h f;
            here = λ k. (f.found k).1;
            most = turn-calls;
            calls_are = omega (arith, t.calls_are, says.calls, upto (calls_of rows s left), on (calls_of rows s left));
            ladders_are = omega (arith, t.ladders_are, says.ladders, upto (ladders_of rows s left), on (ladders_of rows s left));
            all_calls_is = t.all_calls_is;
            all_ladders_is = t.all_ladders_is;
          }
            where
              on : (v : ℕ → ℕ) → sum_below (can rows s left) v h ≡ sum_below (can rows s left) v (suc g)
              on v = sum_skip (can rows s left) v (suc g) h (next_above (can rows s left) g h l f) (λ i a c. f.least i (omega arith) c)
