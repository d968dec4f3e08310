-- The pass over the picks: what holds after the first i of them (`Going`), one pick more, a pick that cannot have
-- been made, the end, and the answers; `replays_unique` says that there is one answer. Arrays are read by place:
-- nothing is asked of what is in them.
--
-- Pins, which nothing else cites: `replays_unique`.
use mathlib.Core.Path.{◌≡◌, refl, sym, ap, ap₂, ◌∙◌, subst}
use mathlib.Core.Bool.{Bool, true, false, not, ◌&&◌, ◌||◌}
use mathlib.Core.List.{List, [], ◌∷◌, ◌++◌}
use Prim.Native.Nat.{ℕ, suc, ◌+◌, ◌-◌, ◌^◌, ◌≤◌, ◌<◌, min}
use native.Mathlib.Decide.{ℕ_discrete, dec_lt}
use native.Mathlib.Omega.{arith}
use lib.Bits.{bit_and}
use lib.Dec.{eqb, ltb}
use lib.ListN.{length, get_or, take, length-take, get_or-append}
use lib.Seq.{ext_get_or, get_or-take, get_or-append_seam}
use borrow.Author.Tests.{lt-ltb, ltb-true}
use Rattle.sets.specs.Sets.{bit, meet, ◌⊆◌, lowest}
use Rattle.sets.specs.First.{Without}
use Rattle.sets.proofs.Tests.{is_false}
use Rattle.sets.proofs.Masks.{lowest_up}
use Rattle.sets.proofs.OnePlace.{bit-lowest}
use Rattle.sets.proofs.Order.{eq_of_bits, meet_comm, meet_left, meet_right, meet_glb, sub_antisym, sub_refl, sub_trans, sub_zero, zero_sub}
use Rattle.sets.proofs.Tabulated.{length-tabulate, get_or-tabulate}
use Rattle.table.specs.Pairs.{row}
use Rattle.table.proofs.Places.{row_past}
use Rattle.rules.specs.Machine.{Down, at}
use Rattle.rules.specs.ByNumber.{Reached}
use Rattle.rules.specs.private.Fitting.{Valid}
use Rattle.rules.proofs.Reach.{reachable}
use Rattle.rules.proofs.Trees.{valid_kid, length_snoc}
use Rattle.lists.specs.PickSequence.{is_in}
use Rattle.lists.specs.Picks.{common, remainder}
use Rattle.lists.specs.ByNumber.{candidates}
use Rattle.lists.proofs.Unpicked.{Un, un_nil, is_in_snoc}
use Rattle.lists.proofs.Remainders.{remainder_left}
use Rattle.lists.proofs.Candidates.{Cand, mem_candidates}
use Rattle.lists.proofs.CandidateTree.{candidate_tree}
use Rattle.lists.proofs.Replaying.{Stands, stands_none, stands-twin, stands_fewer, twin-needed}
use Rattle.search.proofs.Within.{yes_no_lem}
use Rattle.search.proofs.AfterPicks.{full}
use Rattle.std.specs.Prelude.{Option, Some, None}
use Rattle.replay.specs.Picked.{array_rows, Picked, Made, Replays}
use Rattle.replay.specs.private.Steps.{Judges, NoneAgainst}
use Rattle.replay.specs.declared.Replayed.{Replayed}
use Rattle.replay.proofs.Numbers.{valid_next}

pub full_is : full ≡ 2 ^ 64 - 1
full_is = lowest_up 64 (omega arith)

un_of : (x : Bool) → not x ≡ true → x ≡ false
un_of true e = yes_no_lem (not true) e refl
un_of false e = refl

un_is : (p : List ℕ) (j : ℕ) → is_in j p ≡ false → Un p j
un_is p j e = rw e tt

both : (x y : Bool) → (x && y) ≡ true → (x ≡ true) × (y ≡ true)
both true true e = (refl, refl)
both true false e = yes_no_lem false e refl
both false y e = yes_no_lem false e refl

-- sequences of one length that have the same numbers are equal
same_picks : (p q : List ℕ) (i : ℕ) → length p ≡ i → length q ≡ i → ((j : ℕ) → j < i → suc (get_or p j 0) ≡ suc (get_or q j 0)) → p ≡ q
same_picks p q i a b f = ext_get_or 0 p q (a ∙ sym b) (λ j l. let e = f j (omega arith) in omega arith)

-- within all 64 cases a number and its 64 cases are alike
within_full : (a x : ℕ) → x ⊆ full → meet (meet a full) x ≡ meet a x
within_full a x h =
    sub_antisym (meet (meet a full) x) (meet a x)
    (meet_glb (meet (meet a full) x) a x (sub_trans (meet (meet a full) x) (meet a full) a (meet_left (meet a full) x) (meet_left a full))
    (meet_right (meet a full) x))
    (meet_glb (meet a x) (meet a full) x (meet_glb (meet a x) a full (meet_left a x) (sub_trans (meet a x) x full (meet_right a x) h)) (meet_right a x))

-- ---- the rows of an array
module _ (n : ℕ) (rows : List ℕ) where
  pub rows-length : length (array_rows n rows) ≡ min n 64
  unfolding array_rows
  rows-length = length-tabulate (λ i. meet (row rows i) (lowest 64)) (min n 64)

  pub row_side_lem : (i : ℕ) → i < min n 64 → row (array_rows n rows) i ≡ meet (row rows i) full
  unfolding array_rows
  row_side_lem i l = get_or-tabulate (λ i. meet (row rows i) (lowest 64)) (min n 64) i l

  pub side_inside : (i : ℕ) → row (array_rows n rows) i ⊆ full
  side_inside i = go (dec_lt i (min n 64))
    where
      go : Dec (i < min n 64) → row (array_rows n rows) i ⊆ full
      go (yes l) = rw (row_side_lem i l) (meet_right (row rows i) full)
      go (no l) = rw (row_past (array_rows n rows) i (omega (arith, rows-length))) (zero_sub full)

  -- a row among left cases is the array's number among them
  as_row : (g x : ℕ) → g < length (array_rows n rows) → x ⊆ full → bit_and (row rows g) x ≡ meet (row (array_rows n rows) g) x
  unfolding meet
  as_row g x l h = sym (ap (λ (y : ℕ). meet y x) (row_side_lem g (omega (arith, rows-length))) ∙ within_full (row rows g) x h)

module _ (n : ℕ) (rows k : List ℕ) where
  abbrev r : List ℕ
  r = array_rows n rows

  picked_valid : (p : List ℕ) → Reached (candidates r) (at p Down) → Valid (candidates r) p
  picked_valid p = (reachable (candidates r) (length r) (candidate_tree r) (at p Down)).0

  pub record Going (unpicked left before last i : ℕ) : Type 0 where
    pub picks : List ℕ
    pub counted : length picks ≡ i
    pub numbers : (j : ℕ) → j < i → get_or k j 0 ≡ suc (get_or picks j 0)
    pub stands : Stands r full (side_inside n rows) picks before left last
    pub unpicked_are : (j : ℕ) → bit unpicked j ≡ (ltb j (length r) && not (is_in j picks))
    pub filled : ¬ (left ≡ 0)
    pub left_low : left ⊆ full
    pub before_low : before ⊆ full

  pub going_none : (u left before : ℕ) → u ≡ lowest n → left ≡ full → before ≡ full → Going u left before 0 0
  going_none u left before eu el eb = record {
    picks = [];
    counted = refl;
    numbers = λ j l. absurd (omega arith);
    stands = rw (el, eb) (stands_none r full (side_inside n rows));
    unpicked_are = λ j.
        ap (λ (x : ℕ). bit x j) eu ∙ bit-lowest n j ∙ ap (ltb j) (sym (rows-length n rows))
        ∙ sym (ap (λ (x : Bool). ltb j (length r) && not x) (is_false (is_in j []) (un_nil j)) ∙ and-true (ltb j (length r)));
    filled = λ e. omega (arith, el, full_is);
    left_low = rw el (sub_refl full);
    before_low = rw eb (sub_refl full);
  }
    where
      and-true : (x : Bool) → (x && true) ≡ x
      and-true true = refl
      and-true false = refl

  module _ (u left before last i : ℕ) (f : Going u left before last i) where
    in-open : (g : ℕ) → bit u g ≡ true → (g < length r) × Un f.picks g
    in-open g b =
        let (x, y) = both (ltb g (length r)) (not (is_in g f.picks)) (sym (f.unpicked_are g) ∙ b) in
        (ltb-true g (length r) x, un_is f.picks g (un_of (is_in g f.picks) y))

    open_in : (g : ℕ) → g < length r → Un f.picks g → bit u g ≡ true
    open_in g l v = f.unpicked_are g ∙ ap₂ (λ (x y : Bool). x && not y) (lt-ltb g (length r) l) (is_false (is_in g f.picks) v)

    rem_is : (g : ℕ) → remainder r f.picks g ≡ meet (row r g) left
    rem_is g = remainder_left r full f.picks g (side_inside n rows g) ∙ ap (meet (row r g)) (sym f.stands.left)

    own_in : (g : ℕ) → g < length r → bit_and (row rows g) left ≡ meet (row r g) left
    own_in g l = as_row n rows g left l f.left_low

    twin-in : (g : ℕ) → g < length r → bit_and (row rows g) before ≡ meet (row r g) before
    twin-in g l = as_row n rows g before l f.before_low

    -- ---- a pick
    module _ (number g own : ℕ) (en : number ≡ get_or k i 0) (pos : number ≡ 0 → ⊥) (eg : g ≡ number - 1) where
      number_is : number ≡ suc g
      number_is = positive (ℕ_discrete number 0)
        where
          positive : Dec (number ≡ 0) → number ≡ suc g
          positive (yes d) = absurd (pos d)
          positive (no d) = omega arith

      pub going_more : (t : Bool) → t ≡ bit u g → t ≡ true → own ≡ bit_and (get_or rows g 0) left → (own ≡ 0 → ⊥)
          → (j : Option ℕ) → Judges (get_or rows g 0) own before left last g j → (b : ℕ) → j ≡ Some b → (u' : ℕ) → Without u g u' → Going u' own b number (i + 1)
      going_more t et ht eo ne j d b ok u' w = record {
        picks = f.picks ++ (g ∷ []);
        counted = omega (arith, length_snoc f.picks g, f.counted);
        numbers = λ j l. numbered j (dec_lt j i) l;
        stands = subst (Stands r full (side_inside n rows) (f.picks ++ (g ∷ [])) b own) (sym number_is) (stood (ℕ_discrete own left));
        unpicked_are = λ h.
            w.bits h ∙ ap (λ (x : Bool). x && not (eqb h g)) (f.unpicked_are h) ∙ bools (ltb h (length r)) (is_in h f.picks) (eqb h g)
            ∙ sym (ap (λ (x : Bool). ltb h (length r) && not x) (is_in_snoc f.picks g h));
        filled = ne;
        left_low = rw own_is (sub_trans (meet (row r g) left) left full (meet_right (row r g) left) f.left_low);
        before_low = low (ℕ_discrete own left);
      }
        where
          below : g < length r
          below = (in-open g (sym et ∙ ht)).0

          fresh : Un f.picks g
          fresh = (in-open g (sym et ∙ ht)).1

          own_is : own ≡ meet (row r g) left
          own_is = eo ∙ own_in g below

          bools : (x y z : Bool) → ((x && not y) && not z) ≡ (x && not (y || z))
          bools true true z = refl
          bools true false z = refl
          bools false y z = refl

          numbered : (j : ℕ) → Dec (j < i) → j < i + 1 → get_or k j 0 ≡ suc (get_or (f.picks ++ (g ∷ [])) j 0)
          numbered j (yes l) y = f.numbers j l ∙ ap suc (sym (get_or-append f.picks (g ∷ []) 0 j (omega (arith, f.counted))))
          numbered j (no l) y =
              let e : j ≡ length f.picks = omega (arith, f.counted) in
              let d : j ≡ i = omega arith in
              ap (λ (m : ℕ). get_or k m 0) d ∙ sym en ∙ number_is
              ∙ ap suc (sym (ap (λ (m : ℕ). get_or (f.picks ++ (g ∷ [])) m 0) e ∙ get_or-append_seam f.picks g [] 0))

          low : Dec (own ≡ left) → b ⊆ full
          low (yes e) = rw (d.twin b ok e).0 f.before_low
          low (no e) = rw (d.fewer b ok e) f.left_low

          stood : Dec (own ≡ left) → Stands r full (side_inside n rows) (f.picks ++ (g ∷ [])) b own (suc g)
          stood (yes e) =
              let (eb, (m, y)) = d.twin b ok e in
              subst (λ (x : ℕ). Stands r full (side_inside n rows) (f.picks ++ (g ∷ [])) x own (suc g)) (sym eb)
              (stands-twin r full (side_inside n rows) f.picks before left last g own f.stands own_is e below fresh ne (sym (twin-in g below) ∙ m) y)
          stood (no e) =
              subst (λ (x : ℕ). Stands r full (side_inside n rows) (f.picks ++ (g ∷ [])) x own (suc g)) (sym (d.fewer b ok e))
              (stands_fewer r full (side_inside n rows) f.picks before left last g own f.stands own_is e below fresh ne)

    -- ---- picks that can have been made have this one right
    module _ (number count : ℕ) (l : i < count) (en : number ≡ get_or k i 0) (q : List ℕ) (h : Picked r k count q) where
      next-number : number ≡ suc (get_or q i 0)
      next-number = en ∙ h.numbers i l

      module _ (g : ℕ) (eg : g ≡ number - 1) where
        valid-more : Valid (candidates r) (f.picks ++ (g ∷ []))
        valid-more =
            let long : i < length q = omega (arith, h.counted) in
            let same : f.picks ≡ take i q =
            same_picks f.picks (take i q) i f.counted (length-take i q ∙ omega arith) (λ j y.
            sym (f.numbers j y) ∙ h.numbers j (omega arith) ∙ ap suc (sym (get_or-take i q j 0 y))) in
            let d : g ≡ get_or q i 0 = omega (arith, next-number) in
            rw (same, d) (valid_next (candidates r) q i (picked_valid q h.reached) long)

        cand : Cand r f.picks g
        cand = (mem_candidates r f.picks g).0 (valid_kid (candidates r) f.picks g valid-more)

        pub bad-place : (t : Bool) → t ≡ bit u g → t ≡ false → ⊥
        bad-place t et ht = yes_no_lem (bit u g) (open_in g cand.below cand.fresh) (sym et ∙ ht)

        pub bad-empty : (own : ℕ) → own ≡ bit_and (get_or rows g 0) left → own ≡ 0 → ⊥
        bad-empty own eo z = cand.filled (rem_is g ∙ sym (eo ∙ own_in g cand.below) ∙ z)

        pub bad-judge : (own : ℕ) → own ≡ bit_and (get_or rows g 0) left → (j : Option ℕ) → Judges (get_or rows g 0) own before left last g j → j ≡ None → ⊥
        bad-judge own eo j d hn =
            let (el, bad) = d.no hn in
            let (m, y) = twin-needed r full (side_inside n rows) f.picks before left last g own f.stands (eo ∙ own_in g cand.below) el valid-more in
            bad (twin-in g cand.below ∙ m, y)

    -- ---- the end
    pub going-made : (count : ℕ) (t : Bool) (s : Replayed) → i ≡ count → NoneAgainst rows u left before last t → t ≡ true → s.unpicked ≡ u → s.left ≡ left
        → Made r k count s
    going-made count t s ei d ok eu el = record {
      picks = f.picks;
      given = record {
        counted = f.counted ∙ ei;
        numbers = λ j l. f.numbers j (omega arith);
        reached = (reachable (candidates r) (length r) (candidate_tree r) (at f.picks Down)).1 (f.stands.back (λ h v o. clear h v o (dec_lt h (length r))));
      };
      unpicked = λ j. ap (λ (x : ℕ). bit x j) eu ∙ f.unpicked_are j;
      left = el ∙ f.stands.left;
    }
      where
        clear : (h : ℕ) → Un f.picks h → left ⊆ row r h → Dec (h < length r) → (meet (row r h) before ≡ left) × (last ≤ h)
        clear h v o (yes y) =
            let (m, z) = d.yes ok h (open_in h y v) (own_in h y ∙ meet_comm (row r h) left ∙ o) in
            (sym (twin-in h y) ∙ m, z)
        clear h v o (no y) = absurd (f.filled (sub_zero left (subst (λ (x : ℕ). left ⊆ x) (row_past r h (omega arith)) o)))

    pub going-against : (count : ℕ) (t : Bool) → i ≡ count → NoneAgainst rows u left before last t → t ≡ false → (q : List ℕ) → Picked r k count q → ⊥
    going-against count t ei d hn q e =
        let (h, b, o, bad) = d.no hn in
        let (y, w) = in-open h b in
        let same : q ≡ f.picks = same_picks q f.picks i (e.counted ∙ sym ei) f.counted (λ j l. sym (e.numbers j (omega arith)) ∙ f.numbers j l) in
        let (m, z) = f.stands.forth (subst (Valid (candidates r)) same (picked_valid q e.reached)) h w (meet_comm left (row r h) ∙ sym (own_in h y) ∙ o) in
        bad (twin-in h y ∙ m, z)

-- picks that can have been made are at most as many as the rows
pub picked_few : (n : ℕ) (rows k : List ℕ) (count : ℕ) (p : List ℕ) → Picked (array_rows n rows) k count p → count ≤ 64
picked_few n rows k count p h = omega (arith, (candidate_tree (array_rows n rows)).depth p (picked_valid n rows k p h.reached), rows-length n rows, h.counted)

-- ---- the places of the set are among the 64
abbrev pub Low : ℕ → Type 0
Low u = (g : ℕ) → bit u g ≡ true → g < 64

pub low_none : (n u : ℕ) → u ≡ lowest n → Low u
low_none n u e g b = omega (arith, ltb-true g (min n 64) (sym (ap (λ (x : ℕ). bit x g) e ∙ bit-lowest n g) ∙ b))

pub low_more : (u g u' : ℕ) → Low u → Without u g u' → Low u'
low_more u g u' f w h b = f h (both (bit u h) (not (eqb h g)) (sym (w.bits h) ∙ b)).0

-- ---- the answers
pub replays_no : (n : ℕ) (rows k : List ℕ) (count : ℕ) → ((p : List ℕ) → Picked (array_rows n rows) k count p → ⊥) → Replays n rows k count None
replays_no n rows k count h = record { yes = λ s d. absurd cc; no = λ d. h }

pub replays_yes : (n : ℕ) (rows k : List ℕ) (count : ℕ) (s : Replayed) → Made (array_rows n rows) k count s → Replays n rows k count (Some s)
replays_yes n rows k count s h = record { yes = λ q d. let e : s ≡ q = cc in subst (Made (array_rows n rows) k count) e h; no = λ d. absurd cc }

pub replays_unique : (n : ℕ) (rows k : List ℕ) (count : ℕ) (s q : Option Replayed) → Replays n rows k count s → Replays n rows k count q → s ≡ q
replays_unique n rows k count None None a b = refl
replays_unique n rows k count None (Some y) a b = let w = b.yes y refl in absurd (a.no refl w.picks w.given)
replays_unique n rows k count (Some x) None a b = let m = a.yes x refl in absurd (b.no refl m.picks m.given)
replays_unique n rows k count (Some x) (Some y) a b = ap Some (one (a.yes x refl) (b.yes y refl))
  where
    record_is : (u v l m : ℕ) → u ≡ v → l ≡ m → ◌≡◌ {A = Replayed} (record { unpicked = u; left = l }) (record { unpicked = v; left = m })
    record_is u v l m y z = rw (y, z)

    one : Made (array_rows n rows) k count x → Made (array_rows n rows) k count y → x ≡ y
    one m w =
        let same : m.picks ≡ w.picks =
        same_picks m.picks w.picks count m.given.counted w.given.counted (λ j l. sym (m.given.numbers j l) ∙ w.given.numbers j l) in
        record_is x.unpicked y.unpicked x.left y.left
        (eq_of_bits x.unpicked y.unpicked (λ j. m.unpicked j ∙ ap (λ (p : List ℕ). ltb j (length (array_rows n rows)) && not (is_in j p)) same
        ∙ sym (w.unpicked j)))
        (m.left ∙ ap (λ (p : List ℕ). common (array_rows n rows) p (lowest 64)) same ∙ sym w.left)
