-- Whether some pair's conflicts strictly contain those of a pair, row by row, and the essential pairs of a row: what each answer and each turn
-- of the code says of the definitions.
use mathlib.Core.Path.{◌≡◌, refl, sym, ap, ◌∙◌, subst}
use mathlib.Core.Logic.{◌⊎◌, inl, inr, ◌↔◌}
use mathlib.Core.Bool.{Bool, true, false, not, ◌&&◌}
use mathlib.Core.List.{List}
use Prim.Native.Nat.{ℕ, zero, suc, ◌+◌, ◌*◌, ◌-◌, ◌≤◌, ◌<◌}
use native.Mathlib.Decide.{ℕ_discrete, dec_lt}
use native.Mathlib.Omega.{arith}
use lib.Dec.{T, T_not, eqb}
use lib.Bits.{bit_and}
use lib.Count.{count_trailing_zeros}
use lib.ListN.{length, get_or, set, length-set, length-replicate, get_or-replicate}
use lib.Seq.{get_or-set_same, get_or-set_other}
use borrow.Author.Tests.{eq-eqb, ne_eqb}
use Rattle.basics.proofs.Clash.{clash}
use Rattle.sets.specs.Sets.{bit, meet, is_subset}
use Rattle.sets.specs.First.{Lowest, Rest, Without}
use Rattle.sets.proofs.Tests.{test, and_l, and_r, and_i}
use Rattle.sets.proofs.OnePlace.{none_in}
use Rattle.table.specs.declared.Table.{Table}
use Rattle.table.specs.Pairs.{row, Has}
use Rattle.table.specs.Tables.{Legal, table_rows, no_rows}
use Rattle.table.proofs.Places.{has_place, place_has, by_place_lem, row_past}
use Rattle.table.proofs.Legality.{legal_passes}
use Rattle.conflicts.specs.Conflicts.{Includes, StrictlyContains, Essential}
use Rattle.essentials.specs.private.Unions.{without, includes, Stored, Ready, Placed, OutdoneIn, Outdone, EssentialRow}
use Rattle.essentials.specs.Answers.{GivesEssentials}
use Rattle.essentials.proofs.Comparing.{includes_short}
use Rattle.essentials.proofs.RowLaws.{bit-without}
use Rattle.conflicts.proofs.SamePairs.{same_back, essential_same, table_pairs}
use Rattle.essentials.proofs.Storing.{Passed, passed_more, passed_all, next_in, rest_before}

-- an answer of the code, where the statement does and does not hold
told_yes : {P : Type 0} → P → (true ≡ true) ↔ P
told_yes p = (λ e. p, λ x. refl)

told_no : {P : Type 0} → (P → ⊥) → (false ≡ true) ↔ P
told_no n = (λ e. clash cc, λ p. absurd (n p))

module _ (r : List ℕ) (n : ℕ) (store : List ℕ) (ready : Ready r n store) (g k : ℕ) (at : Placed r n g k) where
  -- ---- the pairs of row h
  module _ (h : ℕ) (l : h < n) where
    -- place d of row h has conflicts that do not strictly contain those of place k of row g
    abbrev pub Apart : ℕ → Type 0
    Apart d = StrictlyContains r (suc h) (suc d) (suc g) (suc k) → ⊥

    abbrev U : ℕ
    U = get_or store (g * 64 + k) 0

    -- the two comparisons, by the store
    over : (d : ℕ) → T (bit (row r h) d) → T (includes U d (row r h) (row r g)) ↔ Includes r (suc h) (suc d) (suc g) (suc k)
    over d t =
        subst (λ (u : ℕ). T (includes u d (row r h) (row r g)) ↔ Includes r (suc h) (suc d) (suc g) (suc k))
        (sym (ready.stored.entry g k at.among at.low at.held))
        (includes_short r n ready.past g k h d at.held t)

    back : (d : ℕ) → d < 64 → T (bit (row r h) d) → T (includes (get_or store (h * 64 + d) 0) k (row r g) (row r h)) ↔ Includes r (suc g) (suc k) (suc h) (suc d)
    back d b t =
        subst (λ (u : ℕ). T (includes u k (row r g) (row r h)) ↔ Includes r (suc g) (suc k) (suc h) (suc d)) (sym (ready.stored.entry h d l b t))
        (includes_short r n ready.past h d g k t at.held)

    -- `over`, as the code asks it
    over-low : (d : ℕ) → T (includes U d (row r h) (row r g)) → T (not (bit U d)) × T (is_subset (bit_and U (row r h)) (row r g))
    unfolding includes meet
    over-low d t = (and_l (not (bit U d)) (is_subset (bit_and U (row r h)) (row r g)) t, and_r (not (bit U d)) (is_subset (bit_and U (row r h)) (row r g)) t)

    low-over : (d : ℕ) → T (not (bit U d)) → T (is_subset (bit_and U (row r h)) (row r g)) → T (includes U d (row r h) (row r g))
    unfolding includes meet
    low-over d t u = and_i (not (bit U d)) (is_subset (bit_and U (row r h)) (row r g)) t u

    -- none of row h, where none of its places is
    no_place : ((d : ℕ) → T (bit (row r h) d) → Apart d) → (false ≡ true) ↔ OutdoneIn r g k h
    no_place f = told_no (λ x. out x.0 x.1 x.2)
      where
        out : (d : ℕ) → Has r (suc h) d → StrictlyContains r (suc h) d (suc g) (suc k) → ⊥
        out zero q v = let z = q.case in omega arith
        out (suc d) q v = f d (has_place r h d q) v

    module _ (t : Bool) (e : t ≡ is_subset (bit_and U (row r h)) (row r g)) where
      pub not_within : t ≡ false → (false ≡ true) ↔ OutdoneIn r g k h
      not_within d = no_place (λ j u v. subst T (sym e ∙ d) (over-low j ((over j u).1 v.include)).1)

      module _ (w : t ≡ true) (all : ℕ) (a : all ≡ without (row r h) U) where
        -- a place of the set that the loop passes through
        in_all : (d : ℕ) → T (bit all d) → T (bit (row r h) d) × T (not (bit U d))
        in_all d u =
            let v : T (bit (row r h) d && not (bit U d)) = rw (a, bit-without (row r h) U d) at u in
            (and_l (bit (row r h) d) (not (bit U d)) v, and_r (bit (row r h) d) (not (bit U d)) v)

        pub place_found : (rest d : ℕ) (b : Bool) → Passed Apart all rest → Lowest rest d
            → b ≡ includes (get_or store (h * 64 + d) 0) k (row r g) (row r h) → b ≡ false → (true ≡ true) ↔ OutdoneIn r g k h
        place_found rest d b p low f z = told_yes (
          suc d,
          place_has r h d x.0,
          record {
            include = (over d x.0).0 (low-over d x.1 (rw (← e, w) tt));
            strict = λ i. subst T (sym f ∙ z) ((back d low.below x.0).1 i);
          },
        )
          where
            x : T (bit (row r h) d) × T (not (bit U d))
            x = in_all d (next_in Apart all rest d p low)

        pub place-passed : (rest after d : ℕ) (b : Bool) → Passed Apart all rest → d ≡ count_trailing_zeros 64 rest → Lowest rest d → Rest rest after
            → b ≡ includes (get_or store (h * 64 + d) 0) k (row r g) (row r h) → b ≡ true → Passed Apart all after
        place-passed rest after d b p y low q f z =
            passed_more Apart Apart all rest after d p y q (λ j ne v. v)
            (λ v. v.strict ((back d low.below (in_all d (next_in Apart all rest d p low)).0).0 (rw (← f, z) tt)))

        pub none_found : (rest : ℕ) → Passed Apart all rest → rest ≡ 0 → (false ≡ true) ↔ OutdoneIn r g k h
        none_found rest p z = no_place (λ d u. go d u (test (bit U d)))
          where
            go : (d : ℕ) → T (bit (row r h) d) → T (bit U d) ⊎ T (not (bit U d)) → Apart d
            go d u (inl x) v = T_not (bit U d) (over-low d ((over d u).1 v.include)).0 x
            go d u (inr x) v = passed_all Apart all rest p z d (rw (a, bit-without (row r h) U d) (and_i (bit (row r h) d) (not (bit U d)) u x)) v

  -- ---- the pairs of all rows

  pub row_passed : (h : ℕ) (b : Bool) → ((j : ℕ) → j < h → OutdoneIn r g k j → ⊥) → (b ≡ true) ↔ OutdoneIn r g k h → b ≡ false
      → (j : ℕ) → j < h + 1 → OutdoneIn r g k j → ⊥
  row_passed h b below f e j l x = go (ℕ_discrete j h)
    where
      go : Dec (j ≡ h) → ⊥
      go (yes d) = let y : b ≡ true = f.1 (subst (OutdoneIn r g k) d x) in clash cc
      go (no d) = below j (omega arith) x

  pub no_row : (h : ℕ) → ((j : ℕ) → j < h → OutdoneIn r g k j → ⊥) → n ≤ h → (false ≡ true) ↔ Outdone r g k
  no_row h below m = told_no (λ x. out x.0 x.1 x.2 x.3)
    where
      low : (j d : ℕ) → Has r (suc j) d → Dec (j < n) → j < n
      low j d q (yes l) = l
      low j d q (no l) = absurd (subst T (none_in (d - 1)) (empty q.set))
        where
          empty : T (bit (row r (suc j - 1)) (d - 1)) → T (bit 0 (d - 1))
          empty t = let e : suc j - 1 ≡ j = omega arith in rw (e, ready.past j (omega arith)) at t

      out : (h d : ℕ) → Has r h d → StrictlyContains r h d (suc g) (suc k) → ⊥
      out zero d q v = let z = q.gauge in omega arith
      out (suc j) d q v = below j (omega (arith, low j d q (dec_lt j n))) (d, q, v)

-- ---- the essential pairs of a row
pub record Keeping (r : List ℕ) (g kept rest : ℕ) : Type 0 where
  pub passed : Passed (λ (k : ℕ). T (bit kept k) ↔ Essential r (suc g) (suc k)) (row r g) rest
  pub inside : (k : ℕ) → T (bit kept k) → T (bit (row r g) k)
  pub waiting : (k : ℕ) → T (bit rest k) → T (bit kept k)

module _ (r : List ℕ) (g kept rest after k : ℕ) (b : Bool) (s : Keeping r g kept rest) (e : k ≡ count_trailing_zeros 64 rest) (l : Lowest rest k) (x : Rest rest after)
    (f : (b ≡ true) ↔ Outdone r g k) where
  abbrev Kept : ℕ → ℕ → Type 0
  Kept set k = T (bit set k) ↔ Essential r (suc g) (suc k)

  pub keeping_in : b ≡ false → Keeping r g kept after
  keeping_in d = record {
    passed = passed_more (Kept kept) (Kept kept) (row r g) rest after k s.passed e x (λ j z y. y) (λ t. essential, λ y. s.waiting k (rw l.here tt));
    inside = s.inside;
    waiting = λ j t. s.waiting j (rest_before rest after j x t);
  }
    where
      essential : Essential r (suc g) (suc k)
      essential = record {
        pair = place_has r g k (next_in (Kept kept) (row r g) rest k s.passed l);
        none = λ h i q v. let y : b ≡ true = f.1 (h, i, q, v) in clash cc;
      }

  module _ (kept' : ℕ) (w : Without kept k kept') where
    gone : bit kept' k ≡ false
    gone = w.bits k ∙ ap (λ (y : Bool). bit kept k && not y) (eq-eqb k k refl) ∙ and-false (bit kept k)
      where
        and-false : (y : Bool) → (y && false) ≡ false
        and-false true = refl
        and-false false = refl

    other : (j : ℕ) → ¬ (j ≡ k) → bit kept' j ≡ bit kept j
    other j d = w.bits j ∙ ap (λ (y : Bool). bit kept j && not y) (ne_eqb j k d) ∙ and-true (bit kept j)
      where
        and-true : (y : Bool) → (y && true) ≡ y
        and-true true = refl
        and-true false = refl

    keeping-out : b ≡ true → Keeping r g kept' after
    keeping-out d = record {
      passed = passed_more (Kept kept) (Kept kept') (row r g) rest after k s.passed e x
          (λ j z y. subst (λ (v : Bool). T v ↔ Essential r (suc g) (suc j)) (sym (other j z)) y)
          (λ t. absurd (subst T gone t), λ y. absurd (out y));
      inside = λ j t. s.inside j (and_l (bit kept j) (not (eqb j k)) (rw (w.bits j) at t));
      waiting = λ j t. still j t (ℕ_discrete j k);
    }
      where
        out : Essential r (suc g) (suc k) → ⊥
        out y = let o = f.0 d in y.none o.0 o.1 o.2 o.3

        still : (j : ℕ) → T (bit after j) → Dec (j ≡ k) → T (bit kept' j)
        still j t (yes z) = absurd (subst T (ap (λ (y : ℕ). bit after y) z ∙ left) t)
          where
            left : bit after k ≡ false
            left = x.bits k ∙ ap (λ (y : Bool). bit rest k && not y) (eq-eqb k (count_trailing_zeros 64 rest) e) ∙ and-false (bit rest k)
              where
                and-false : (y : Bool) → (y && false) ≡ false
                and-false true = refl
                and-false false = refl
        still j t (no z) = rw (other j z) (s.waiting j (rest_before rest after j x t))

pub keeping_all : (r : List ℕ) (g kept rest : ℕ) → Keeping r g kept rest → rest ≡ 0 → EssentialRow r g kept
keeping_all r g kept rest s e k = (λ t. (at (s.inside k t)).0 t, λ y. (at (has_place r g k y.pair)).1 y)
  where
    at : T (bit (row r g) k) → T (bit kept k) ↔ Essential r (suc g) (suc k)
    at t = passed_all (λ (k : ℕ). T (bit kept k) ↔ Essential r (suc g) (suc k)) (row r g) rest s.passed e k t

-- ---- the essential pairs of all rows
pub record Finding (r : List ℕ) (n : ℕ) (found : List ℕ) (i : ℕ) : Type 0 where
  pub size : length found ≡ 64
  pub most : i ≤ n
  pub entry : (j : ℕ) → j < i → EssentialRow r j (row found j)
  pub empty : (j : ℕ) → i ≤ j → row found j ≡ 0

zeros : (j : ℕ) → row no_rows j ≡ 0
zeros j = go (dec_lt j 64)
  where
    go : Dec (j < 64) → row no_rows j ≡ 0
    go (yes l) = get_or-replicate 64 j 0 0 l
    go (no l) = row_past no_rows j (omega (arith, length-replicate {A = ℕ} 64 0))

pub finding_none : (r : List ℕ) (n : ℕ) → Finding r n no_rows 0
finding_none r n = record { size = length-replicate {A = ℕ} 64 0; most = omega arith; entry = λ j l. absurd (omega arith); empty = λ j l. zeros j }

pub finding_more : (r : List ℕ) (n : ℕ) (found : List ℕ) (i v : ℕ) → Finding r n found i → i < n → n ≤ 64 → EssentialRow r i v
    → Finding r n (set found i v) (i + 1)
finding_more r n found i v s l m e = record {
  size = length-set found i v ∙ s.size;
  most = omega arith;
  entry = λ j h. go j h (ℕ_discrete j i);
  empty = λ j h. get_or-set_other found i j v 0 (λ z. omega arith) ∙ s.empty j (omega arith);
}
  where
    go : (j : ℕ) → j < i + 1 → Dec (j ≡ i) → EssentialRow r j (row (set found i v) j)
    go j h (yes d) =
        subst (λ (x : ℕ). EssentialRow r x (row (set found i v) x)) (sym d)
        (subst (EssentialRow r i) (sym (get_or-set_same found i v 0 (omega (arith, s.size)))) e)
    go j h (no d) = subst (EssentialRow r j) (sym (get_or-set_other found i j v 0 d)) (s.entry j (omega arith))

pub finding_all : (t : Table) → Legal t → (found : List ℕ) (i : ℕ) → Finding t.rows t.gauges found i → t.gauges ≤ i
    → GivesEssentials t (record { refusal = 0; value = found })
finding_all t legal found i s l = record {
  refusal = sym (legal_passes t legal);
  size = s.size;
  pairs = λ z g c. (
    by_place_lem found (Essential (table_rows t)) (λ j k u. essential_same (table_pairs t legal) (suc j) (suc k) ((s.entry j (low j k u (dec_lt j i)) k).0 u)) g c,
    λ e. by_place_lem t.rows (λ g c. Essential t.rows g c → Has found g c)
        (λ j k u v. place_has found j k ((s.entry j (inside j k u (dec_lt j t.gauges)) k).1 v)) g c
        ((table_pairs t legal g c).1 e.pair) (essential_same (same_back (table_pairs t legal)) g c e),
  );
  blank = λ z. absurd (z refl);
}
  where
    low : (j k : ℕ) → T (bit (row found j) k) → Dec (j < i) → j < i
    low j k u (yes h) = h
    low j k u (no h) = absurd (subst T (none_in k) (rw (s.empty j (omega arith)) at u))

    inside : (j k : ℕ) → T (bit (row t.rows j) k) → Dec (j < t.gauges) → j < i
    inside j k u (yes h) = omega arith
    inside j k u (no h) = absurd (subst T (none_in k) (rw (legal.rows_rest j (omega arith)) at u))

pub ready : (t : Table) → Legal t → (store : List ℕ) → Stored t.rows t.gauges t.gauges store → Ready t.rows t.gauges store
ready t l store s = record { few = l.gauges_high; past = l.rows_rest; stored = s }
