-- The core hands over what the rules do: of a side, the set of the picks has a pair that is wanted exactly where it holds an essential pair, so
-- a call of the core is one of the run (`carried_by`; `gauge_wants`, `case-wants`). The pairs that are wanted are the essential ones, on the case side with
-- gauges and cases exchanged, as the chain is.
use mathlib.Core.Path.{◌≡◌, refl, sym, ap, ◌∙◌, subst, fun_ext}
use mathlib.Core.Logic.{◌↔◌}
use mathlib.Core.Bool.{Bool, true, false, not, ◌&&◌, cond}
use mathlib.Core.List.{List}
use Prim.Native.Nat.{ℕ, suc, ◌-◌, ◌<◌, min}
use native.Mathlib.Nat.{min-eq_left}
use native.Mathlib.Decide.{dec_lt}
use native.Mathlib.Omega.{arith}
use lib.Bits.{bit_and}
use lib.Dec.{T, not_T, eqb, eqb→eq}
use lib.ListN.{length, get_or, take}
use Rattle.sets.specs.Sets.{bit, meet}
use Rattle.sets.specs.Lists.{all_below}
use Rattle.sets.proofs.Tests.{is_true, is_false, and_l, and_r, and_i, eq→eqb}
use Rattle.sets.proofs.Order.{bit-meet, eq_of_bits}
use Rattle.sets.proofs.OnePlace.{none_in}
use Rattle.sets.proofs.Tabulated.{all_at, all_of}
use Rattle.table.specs.Pairs.{row, Has, Within, Cases}
use Rattle.table.specs.Tables.{Legal, table_rows, padded}
use Rattle.table.specs.declared.Table.{Table}
use Rattle.table.proofs.Padding.{pad_get_or}
use Rattle.table.proofs.Places.{has_place, place_has, row_past}
use Rattle.table.proofs.Legality.{length_rows, legal_cases, legal_passes}
use Rattle.refusals.specs.Answers.{Answer}
use Rattle.refusals.specs.declared.Refusal.{Refusal}
use Rattle.std.specs.Prelude.{Result}
use Rattle.transpose.specs.Transposing.{transpose}
use Rattle.transpose.proofs.Transposition.{length-transpose, cases_transpose, has_transpose, cases_within}
use Rattle.rules.specs.Machine.{Phase, State, Move, Given, nothing, hands, ends, gives}
use Rattle.rules.specs.Keeping.{taken}
use Rattle.lists.specs.Lists.{Side, gauge_side, case_side}
use Rattle.lists.specs.OnTable.{chain_of, hand_out, move_on}
use Rattle.lists.proofs.ChainRows.{chain_of_within}
use Rattle.conflicts.specs.Conflicts.{Essential, HoldsEssential}
use Rattle.conflicts.specs.Omitting.{keeps_of}
use Rattle.conflicts.proofs.Testing.{holds_test}
use Rattle.essentials.specs.Answers.{GivesEssentials}
use Rattle.transpose.specs.Places.{places}
use Rattle.transpose.proofs.Columns.{length-places, row-places}
use Rattle.runs.specs.Omitting.{moves_of}
use Rattle.runs.specs.private.Working.{Works, InOrder, apart, hands_over, placed_move}
use Rattle.runs.specs.private.Sided.{Wants}
use Rattle.runs.specs.declared.engine.Report.{Report}

-- ---- what the core asks of a row, and of all
nowhere : (k : ℕ) → T (bit 0 k) → ⊥
nowhere k h = subst T (none_in k) h

abbrev clear : List ℕ → List ℕ → ℕ → Bool
clear w c i = eqb (bit_and (get_or c i 0) (get_or w i 0)) 0

clear_none : (w c : List ℕ) (i : ℕ) → ((k : ℕ) → T (bit (row c i) k) → T (bit (row w i) k) → ⊥) → T (clear w c i)
unfolding meet
clear_none w c i h = eq→eqb (meet (row c i) (row w i)) 0 (eq_of_bits (meet (row c i) (row w i)) 0 (λ k. none k ∙ sym (none_in k)))
  where
    none : (k : ℕ) → bit (meet (row c i) (row w i)) k ≡ false
    none k =
        is_false (bit (meet (row c i) (row w i)) k) (not_T (bit (meet (row c i) (row w i)) k) (λ b.
        let both : T (bit (row c i) k && bit (row w i) k) = subst T (bit-meet (row c i) (row w i) k) b in
        h k (and_l (bit (row c i) k) (bit (row w i) k) both) (and_r (bit (row c i) k) (bit (row w i) k) both)))

clear_some : (w c : List ℕ) (i k : ℕ) → T (clear w c i) → T (bit (row c i) k) → T (bit (row w i) k) → ⊥
unfolding meet
clear_some w c i k h a b =
    nowhere k (subst (λ (x : ℕ). T (bit x k)) (eqb→eq (meet (row c i) (row w i)) 0 h)
    (subst T (sym (bit-meet (row c i) (row w i) k)) (and_i (bit (row c i) k) (bit (row w i) k) a b)))

-- row i of c and of w have the place k
record Common (n : ℕ) (w c : List ℕ) : Type 0 where
  at : ℕ
  place : ℕ
  low : at < n
  mine : T (bit (row c at) place)
  theirs : T (bit (row w at) place)

-- a test that says whether there is such a place is what the core asks
asked_is : (n : ℕ) (w c : List ℕ) (test : Bool) → (T test → Common n w c) → (Common n w c → T test) → hands_over true n w c ≡ test
unfolding hands_over apart
asked_is n w c test found some = go test refl
  where
    go : (b : Bool) → test ≡ b → not (all_below (clear w c) n) ≡ b
    go true e =
        let f = found (subst T (sym e) tt) in
        let z : all_below (clear w c) n ≡ false =
        is_false (all_below (clear w c) n) (not_T (all_below (clear w c) n) (λ h.
        clear_some w c f.at f.place (all_at (clear w c) n f.at h f.low) f.mine f.theirs)) in
        rw z
    go false e =
        let z : all_below (clear w c) n ≡ true =
        is_true (all_below (clear w c) n) (all_of (clear w c) n (λ i l. clear_none w c i (λ k a b.
        subst T e (some (record { at = i; place = k; low = l; mine = a; theirs = b }))))) in
        rw z

-- ---- the moves
module _ (t : Table) (s : Side) (w : List ℕ) where
  -- what the core asks of the picks is what the run keeps
  pub core_moves : (o : List ℕ) (omit : Bool) → (omit ≡ true → Wants t s w) → placed_move s.rows o omit w ≡ moves_of t s o omit
  unfolding placed_move
  core_moves o false h = refl
  core_moves o true h = fun_ext (λ x. ap (λ (g : Given). gives g (move_on s o x).next) (same (move_on s o x).given))
    where
      same : (g : Given) → taken (chain_of s.rows) (hands_over true (length s.rows) w) g ≡ taken (hand_out s) (keeps_of t) g
      same nothing = refl
      same (hands p) = ap (λ (b : Bool). cond b (hands p) nothing) (h refl p)
      same ends = refl

  -- so a call of the core is one of the run
  pub carried_by : (n : ℕ) (R : List ℕ) → n ≡ s.count → Works s s.count R → (omit flag : Bool) → omit ≡ flag → (flag ≡ true → Wants t s w)
      → (order k : List ℕ) (count : ℕ) (f : Phase) (b : ℕ) (c' k' : List ℕ) (o : Result Report Refusal)
      → InOrder (λ q. placed_move (take n R) q flag w) n (take n R) order k count f b c' k' o
      → InOrder (λ q. moves_of t s q omit) s.count s.rows order k count f b c' k' o
  carried_by n R z v omit flag e h order k count f b c' k' o d =
      subst (λ (x : Bool). InOrder (λ q. moves_of t s q x) s.count s.rows order k count f b c' k' o) (sym e)
      (subst (λ (m : List ℕ → State → Move). InOrder m s.count s.rows order k count f b c' k' o) (fun_ext (λ q. core_moves q flag h))
      (subst (λ (r : List ℕ). InOrder (λ q. placed_move r q flag w) s.count r order k count f b c' k' o) v.rows_are
      (subst (λ (i : ℕ). InOrder (λ q. placed_move (take i R) q flag w) i (take i R) order k count f b c' k' o) z d)))

module _ (t : Table) (l : Legal t) where
  -- the test of a set that is within the table
  kept_is : (x : List ℕ) → Within (table_rows t) x → T (keeps_of t x) ↔ HoldsEssential (table_rows t) x
  kept_is x v = holds_test t.cases (table_rows t) (legal_cases t l) x v

  -- a place of a row is among the rows
  among : (x : List ℕ) (i k : ℕ) → T (bit (row x i) k) → i < length x
  among x i k h = go (dec_lt i (length x))
    where
      go : Dec (i < length x) → i < length x
      go (yes y) = y
      go (no y) = absurd (nowhere k (subst (λ (r : ℕ). T (bit r k)) (row_past x i (omega arith)) h))

  -- the essential pairs of a legal table are not refused
  not_refused : (a : Answer (List ℕ)) → GivesEssentials t a → a.refusal ≡ 0
  not_refused a e = e.refusal ∙ legal_passes t l

  -- ---- the gauge side
  pub gauge_wants : (a : Answer (List ℕ)) → GivesEssentials t a → Wants t (gauge_side t) a.value
  gauge_wants a e p = asked_is (length (table_rows t)) w x (keeps_of t x) found some
    where
      w : List ℕ
      w = a.value

      x : List ℕ
      x = chain_of (table_rows t) p

      v : Within (table_rows t) x
      v = chain_of_within (table_rows t) p

      found : T (keeps_of t x) → Common (length (table_rows t)) w x
      found h =
          let q = (kept_is x v).0 h in record {
            at = q.gauge - 1;
            place = q.case - 1;
            low = subst (λ (n : ℕ). q.gauge - 1 < n) v.size (among x (q.gauge - 1) (q.case - 1) q.held.set);
            mine = q.held.set;
            theirs = ((e.pairs (not_refused a e) q.gauge q.case).1 q.essential).set;
          }

      some : Common (length (table_rows t)) w x → T (keeps_of t x)
      some c = (kept_is x v).1 (record {
        gauge = suc c.at;
        case = suc c.place;
        held = place_has x c.at c.place c.mine;
        essential = (e.pairs (not_refused a e) (suc c.at) (suc c.place)).0 (place_has w c.at c.place c.theirs);
      })

  -- ---- the case side
  -- the essential pairs, by as many rows as the table has
  module _ (a : Answer (List ℕ)) (e : GivesEssentials t a) where
    abbrev found : List ℕ
    found = a.value

    abbrev own : List ℕ
    own = places t.gauges found

    own-essential : (g c : ℕ) → Has own g c ↔ Essential (table_rows t) g c
    own-essential g c = (λ h. to h, λ h. back h)
      where
        same : g - 1 < t.gauges → row own (g - 1) ≡ row found (g - 1)
        same h = row-places t.gauges found (g - 1) (omega (arith, l.gauges_high))

        to : Has own g c → Essential (table_rows t) g c
        to h =
            let b : g - 1 < t.gauges = omega (arith, among own (g - 1) (c - 1) h.set, length-places t.gauges found, l.gauges_high) in
            (e.pairs (not_refused a e) g c).0 (record { gauge = h.gauge; case = h.case; set = subst (λ (r : ℕ). T (bit r (c - 1))) (same b) h.set })

        back : Essential (table_rows t) g c → Has own g c
        back h =
            let b : g - 1 < t.gauges = omega (arith, among (table_rows t) (g - 1) (c - 1) h.pair.set, length_rows t l) in
            let q = (e.pairs (not_refused a e) g c).1 h in
            record { gauge = q.gauge; case = q.case; set = subst (λ (r : ℕ). T (bit r (c - 1))) (sym (same b)) q.set }

    own-cases : Cases t.cases own
    own-cases i k h =
        legal_cases t l i k (has_place (table_rows t) i k ((own-essential (suc i) (suc k)).0 (place_has own i k h)).pair)

    -- c:g is wanted where g:c is essential
    turned-essential : (w : List ℕ) → w ≡ padded (transpose (min t.cases 64) own) → (g c : ℕ) → Has w c g ↔ Essential (table_rows t) g c
    turned-essential w d g c = (
      λ h. (own-essential g c).0 ((has_transpose t.cases own own-cases g c).1
          (record { gauge = h.gauge; case = h.case; set = subst (λ (r : ℕ). T (bit r (g - 1))) same h.set })),
      λ h. let q = (has_transpose t.cases own own-cases g c).0 ((own-essential g c).1 h) in
          record { gauge = q.gauge; case = q.case; set = subst (λ (r : ℕ). T (bit r (g - 1))) (sym same) q.set },
    )
      where
        same : row w (c - 1) ≡ row (transpose t.cases own) (c - 1)
        same =
            ap (λ (x : List ℕ). row x (c - 1)) (d ∙ ap (λ (n : ℕ). padded (transpose n own)) (min-eq_left l.cases_high))
            ∙ pad_get_or (transpose t.cases own) (c - 1)

    pub case-wants : (w : List ℕ) → w ≡ padded (transpose (min t.cases 64) own) → Wants t (case_side t) w
    case-wants w d p = asked_is (length sides) w y (keeps_of t x) common some
      where
        sides : List ℕ
        sides = transpose t.cases (table_rows t)

        y : List ℕ
        y = chain_of sides p

        x : List ℕ
        x = transpose t.gauges y

        v : Within sides y
        v = chain_of_within sides p

        few : Cases t.gauges y
        few =
            cases_within t.gauges sides y
            (subst (λ (n : ℕ). Cases n sides) (length_rows t l) (cases_transpose t.cases (table_rows t) (legal_cases t l))) v

        inside : Within (table_rows t) x
        inside = record {
          size = length-transpose t.gauges y ∙ sym (length_rows t l);
          inside = λ g c h.
              (has_transpose t.cases (table_rows t) (legal_cases t l) g c).1 (v.inside c g ((has_transpose t.gauges y few c g).1 h));
        }

        common : T (keeps_of t x) → Common (length sides) w y
        common h =
            let q = (kept_is x inside).0 h in
            let held = (has_transpose t.gauges y few q.case q.gauge).1 q.held in record {
              at = q.case - 1;
              place = q.gauge - 1;
              low = subst (λ (n : ℕ). q.case - 1 < n) v.size (among y (q.case - 1) (q.gauge - 1) held.set);
              mine = held.set;
              theirs = ((turned-essential w d q.gauge q.case).1 q.essential).set;
            }

        some : Common (length sides) w y → T (keeps_of t x)
        some c = (kept_is x inside).1 (record {
          gauge = suc c.place;
          case = suc c.at;
          held = (has_transpose t.gauges y few (suc c.at) (suc c.place)).0 (place_has y c.at c.place c.mine);
          essential = (turned-essential w d (suc c.place) (suc c.at)).0 (place_has w c.at c.place c.theirs);
        })
