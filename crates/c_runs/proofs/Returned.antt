-- What fresh starts and run calls return can be held in words: 64 rows, and 64 numbers of the preference and 64 picks, none above 255. One law for
-- either side, over what both sides come with (Sides.antt).
--
-- In order: the picks of a reached state are numbers of the side, and no more than there are (`reached_below`, `reached_short`); its paused value
-- (`paused-held`, `fresh-held`); the value that a call returns (`called-held`), and its answer (`called-read`).
use mathlib.Core.Path.{◌≡◌, refl, sym, ap, ◌∙◌, subst}
use mathlib.Core.Logic.{◌⊎◌, inl, inr}
use mathlib.Core.Bool.{Bool}
use mathlib.Core.List.{List, [], ◌∷◌, map}
use Prim.Native.Nat.{ℕ, zero, suc, ◌≤◌}
use native.Mathlib.Omega.{arith}
use lib.ListN.{length, get_or, length-map}
use Rattle.basics.proofs.Clash.{clash}
use Rattle.table.specs.declared.Table.{Table}
use Rattle.table.specs.declared.Chain.{Chain}
use Rattle.table.specs.Tables.{padded, blank_chain, chain_rows}
use Rattle.table.proofs.Legality.{length_rows}
use Rattle.table.proofs.Padding.{pad_length, pad_get_or}
use Rattle.rules.specs.Machine.{State, fresh}
use Rattle.rules.specs.Calls.{Reply, refused, spent, handed, end, Call}
use Rattle.rules.proofs.Reports.{only18_by}
use Rattle.lists.specs.Arrangements.{IsArrangement}
use Rattle.lists.specs.Lists.{Side}
use Rattle.lists.specs.OnTable.{hand_out, ReachedOn}
use Rattle.lists.specs.private.Arranging.{index_at}
use Rattle.lists.proofs.Standing.{index_below}
use Rattle.lists.proofs.PlacedCandidates.{AllBelow}
use Rattle.lists.proofs.PlacedRuns.{good_below, good_short, reached_placed}
use Rattle.preference.specs.Preferences.{preferred_refusal}
use Rattle.runs.specs.Paused.{Value, paused, blank_value, no_numbers}
use Rattle.runs.specs.Calling.{Step, refusal_step, sequence, arrangement, by_rules, held}
use Rattle.runs.specs.private.Either.{call_of, CalledOf}
use Rattle.runs.specs.Omitting.{moves_of}
use Rattle.runs.proofs.Padding.{take-padded}
use Rattle.runs.proofs.Demands.{reached_next}
use Rattle.run_words.proofs.ReadingBack.{Numbers, Held}
use Rattle.c_runs.proofs.Sides.{Startable, few}
use Rattle.c_runs.proofs.Deciding.{Moved, called_cases}
use Rattle.c_runs.proofs.HandOuts.{call-hands, handed_maximal, handed_sequence}

-- ---- the picks of a reached state
module _ (s : Side) (o : List ℕ) (counted : length s.rows ≡ s.count) (a : IsArrangement s.count o) where
  index_all : (q : List ℕ) → AllBelow s.count q → AllBelow s.count (map (index_at o) q)
  index_all [] b = tt
  index_all (i ∷ q) b = (index_below s.count o a i b.0, index_all q b.1)

  reached_below : (x : State) → ReachedOn s o x → AllBelow s.count x.picks
  reached_below x r =
      let y = (reached_placed s o counted a x).0 r in
      subst (AllBelow s.count) (ap (λ (z : State). z.picks) y.is)
      (index_all y.state.picks (good_below s o counted a y.state y.good).picks)

  reached_short : (x : State) → ReachedOn s o x → length x.picks ≤ s.count
  reached_short x r =
      let y = (reached_placed s o counted a x).0 r in
      subst (λ (p : List ℕ). length p ≤ s.count) (ap (λ (z : State). z.picks) y.is)
      (omega (arith, length-map y.state.picks (index_at o), good_short s o counted a y.state y.good))

numbers_small : (n : ℕ) (p : List ℕ) → AllBelow n p → (i : ℕ) → get_or (map suc p) i 0 ≤ n
numbers_small n [] b i = omega arith
numbers_small n (x ∷ p) b zero = omega (arith, b.0)
numbers_small n (x ∷ p) b (suc i) = numbers_small n p b.1 i

-- ---- paused values
no_numbers_lem : Numbers (padded [])
no_numbers_lem = record { size = pad_length [] (omega arith); small = λ i. omega (arith, pad_get_or [] i) }

blank_held : Held blank_value
blank_held = record { rows = no_numbers_lem.size; order = no_numbers_lem; picks = no_numbers_lem }

-- an answer that words hold: the chain of 64 rows, whose first rows are the set handed out, and the numbers of its pick sequence
pub record Readable (s : Step) : Type 0 where
  pub rows : length s.chain.rows ≡ 64
  pub picks : Numbers s.picks
  pub set : (y : List ℕ) → s.answer ≡ handed y → chain_rows s.chain ≡ y

module _ (side : Table → Side) (all : Startable side) where
  module _ (t : Table) (k : List ℕ) (n : length t.rows ≡ 64) (h : Numbers k) (ok : preferred_refusal t (side t).count k ≡ 0) where
    pub paused-held : (omit : Bool) (s : State) → ReachedOn (side t) (arrangement (side t) k) s → Held (paused t k omit s)
    paused-held omit s r =
        let g = all t n k h.size ok in
        let m = few side t k h.size g in
        let o = arrangement (side t) k in record {
          rows = n;
          order = h;
          picks = record {
            size = pad_length (map suc s.picks) (omega (arith, m, length-map s.picks suc, reached_short (side t) o g.fair.counted g.arranged s r));
            small = λ i.
                omega (
                  arith,
                  m,
                  pad_get_or (map suc s.picks) i,
                  numbers_small (side t).count s.picks (reached_below (side t) o g.fair.counted g.arranged s r) i,
                );
          };
        }

    pub fresh-held : (omit : Bool) → Held (paused t k omit fresh)
    fresh-held omit = paused-held omit fresh (record { count = 0; leads = refl })

    -- the value beside an answer of the rules
    told-held : (omit : Bool) (a : Reply) (m : ℕ) (s : State) → ReachedOn (side t) (arrangement (side t) k) s
        → Held (by_rules t (side t) k omit a m s).next
    told-held omit (refused x) m s r = blank_held
    told-held omit spent m s r = paused-held omit s r
    told-held omit (handed x) m s r = paused-held omit s r
    told-held omit end m s r = paused-held omit s r

  -- ---- run calls
  answer_told : (t : Table) (k : List ℕ) (omit : Bool) (a : Reply) (m : ℕ) (s : State) → (by_rules t (side t) k omit a m s).answer ≡ a
  answer_told t k omit (refused n) m s = refl
  answer_told t k omit spent m s = refl
  answer_told t k omit (handed x) m s = refl
  answer_told t k omit end m s = refl

  module _ (v : Value) (rows : length v.table.rows ≡ 64) (h : Numbers v.order) (b : ℕ) (r : Step) where
    abbrev t : Table
    t = v.table

    abbrev here : Side
    here = side t

    abbrev by : State → Call
    by s = call_of t here (held side v) v.omit b s

    module _ (m : Moved side v b r) where
      reached-by : ReachedOn here (held side v) (by m.state).next
      reached-by = reached_next t here (held side v) v.omit b m.state m.paused_at.reached

      moved-held : Held r.next
      moved-held =
          let c = by m.state in
          subst (λ (x : Step). Held x.next) (sym m.is) (told-held t v.order rows h m.passed v.omit c.answer c.moves c.next reached-by)

      moved-answers : (n : ℕ) → ¬ (r.answer ≡ refused n)
      moved-answers n e =
          let c = by m.state in
          (only18_by (moves_of t here (held side v) v.omit) (hand_out here) b m.state).else m.within n
          (sym (answer_told t v.order v.omit c.answer c.moves c.next) ∙ sym (ap (λ (x : Step). x.answer) m.is) ∙ e)

      -- the set that is handed out has G rows, and its pick sequence is the picks
      handed-facts : (y : List ℕ) → (by m.state).answer ≡ handed y
          → (length y ≡ t.gauges) × (t.gauges ≤ 64) × Numbers (sequence here (held side v) y)
      handed-facts y e =
          let g = all t rows v.order h.size m.passed in
          let x = (by m.state).next in
          let q = call-hands t here (held side v) v.omit b m.state y m.within e in
          let w = (handed_maximal t here g.fair (held side v) g.arranged x reached-by q.0).within.size in (
            sym (ap length q.1) ∙ w ∙ length_rows t g.legal,
            g.legal.gauges_high,
            subst Numbers
                (handed_sequence t here g.fair (held side v) g.arranged x reached-by q.0 ∙ ap (sequence here (held side v)) q.1)
                (paused-held t v.order rows h m.passed v.omit x reached-by).picks,
          )

      moved-readable : Readable r
      moved-readable = subst Readable (sym m.is) (go (by m.state).answer refl)
        where
          blank : (s : Step) → ((y : List ℕ) → ¬ (s.answer ≡ handed y)) → s.chain ≡ blank_chain → s.picks ≡ no_numbers → Readable s
          blank s n e d = record {
            rows = ap (λ (c : Chain). length c.rows) e ∙ no_numbers_lem.size;
            picks = subst Numbers (sym d) no_numbers_lem;
            set = λ y z. absurd (n y z);
          }

          go : (a : Reply) → (by m.state).answer ≡ a → Readable (by_rules t here v.order v.omit a (by m.state).moves (by m.state).next)
          go (refused n) e = absurd ((only18_by (moves_of t here (held side v) v.omit) (hand_out here) b m.state).else m.within n e)
          go spent e = blank _ (λ y d. clash cc) refl refl
          go (handed y) e =
              let (size, few, numbers) = handed-facts y e in record {
                rows = pad_length y (omega arith);
                picks = numbers;
                set = λ z d. let q : y ≡ z = cc in take-padded y t.gauges (sym size) ∙ q;
              }
          go end e = blank _ (λ y d. clash cc) refl refl

    pub called-held : CalledOf side v b r → Held r.next
    called-held c = go (called_cases side v all rows h.size b r c)
      where
        go : ((m : ℕ) × ¬ (m ≡ 0) × (r ≡ refusal_step m)) ⊎ Moved side v b r → Held r.next
        go (inl (m, z, e)) = subst (λ (x : Step). Held x.next) (sym e) blank_held
        go (inr m) = moved-held m

    -- a call is refused with a number that is not 0, and then everything else is blank; or its answer can be read from words
    pub called-read : CalledOf side v b r → ((m : ℕ) × ¬ (m ≡ 0) × (r ≡ refusal_step m)) ⊎ (((n : ℕ) → ¬ (r.answer ≡ refused n)) × Readable r)
    called-read c = go (called_cases side v all rows h.size b r c)
      where
        go : ((m : ℕ) × ¬ (m ≡ 0) × (r ≡ refusal_step m)) ⊎ Moved side v b r
            → ((m : ℕ) × ¬ (m ≡ 0) × (r ≡ refusal_step m)) ⊎ (((n : ℕ) → ¬ (r.answer ≡ refused n)) × Readable r)
        go (inl q) = inl q
        go (inr m) = inr (moved-answers m, moved-readable m)
