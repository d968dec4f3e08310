-- "The arrangement 1, 2, 3 and on gives the former results" (02, R-12), value for value: places are indices there (`index_plain`), so candidates, pick
-- sequences, lists (`base_list`, `base_plain`; 01's two exist, `lists_exist`), growing, the states reached and every call of a run are those by number
-- (`candidates-plain`, `sequence_plain`, `list_plain`, `first_plain`, `first_base`, `reached_plain`, `moves_plain`, `calls_plain`, `left_plain`), of a run
-- that omits too (`keeping_plain`).
use mathlib.Core.Path.{◌≡◌, refl, sym, ap, ap₂, ◌∙◌, subst, fun_ext}
use mathlib.Core.Logic.{◌⊎◌, inl, inr, ◌↔◌}
use mathlib.Core.Bool.{Bool}
use mathlib.Core.List.{List, [], ◌∷◌, map}
use Prim.Native.Nat.{ℕ}
use lib.ListN.{length}
use Rattle.table.specs.declared.Table.{Table}
use Rattle.table.specs.Chains.{IsMaximal}
use Rattle.table.specs.Tables.{Legal, table_rows}
use Rattle.rules.specs.Machine.{Phase, Down, Handed, Back, Ended, State, at, fresh, Given, nothing, hands, ends, Move, gives}
use Rattle.rules.specs.ByNumber.{move, Reached}
use Rattle.rules.specs.Calls.{Call, call_by, calls_by, state_by}
use Rattle.rules.specs.ByNumber.{calls, state_after}
use Rattle.rules.specs.Keeping.{move_keeping}
use Rattle.rules.specs.private.Fitting.{Fits}
use Rattle.rules.proofs.Renaming.{renamed, renamed_phase, renamed_given, renamed_move, renamed_call, Below, Follows, SameOut, call_stays}
use Rattle.rules.proofs.Renaming.{keeping_follows, keeping_out, calls-renamed, state-renamed}
use Rattle.lists.specs.Arrangements.{IsArrangement, plain}
use Rattle.lists.specs.Preferred.{candidates_by, pick_seq_by, places_of}
use Rattle.lists.specs.Lists.{Earlier, SideList, Side, gauge_side, case_side, list_key, PreferredList, base_key, BaseList, GaugeList, CaseList}
use Rattle.lists.specs.Growing.{FirstContaining}
use Rattle.lists.specs.OnTable.{chain_of, hand_out, move_on, ReachedOn, calls_on, left_on}
use Rattle.lists.specs.Keeping.{calls_keeping}
use Rattle.lists.specs.ByNumber.{pick_seq, candidates, sequence_of}
use Rattle.lists.specs.private.Arranging.{index_at, arrange, unarrange, prefer}
use Rattle.lists.proofs.Standing.{index_plain, plain_arrangement}
use Rattle.lists.proofs.Arranging.{arrange-plain, unarrange-arrange}
use Rattle.lists.proofs.CandidateTree.{reached_fits}
use Rattle.lists.proofs.ChainRows.{length-chain_of}
use Rattle.lists.proofs.Listed.{chains_in_order, gauge_list, list_keys}
use Rattle.lists.proofs.BothSides.{Fair, gauge_fair, case_fair, side_list, side_list_lem}
use Rattle.lists.proofs.PlacedCandidates.{AllBelow, candidates-placed, candidates-below}
use Rattle.lists.proofs.PlacedSequences.{sequence_placed, sequence_below, places_placed}
use Rattle.lists.proofs.PlacedRuns.{step_hands, Good, good_below, follows, same_out, reached_placed}

indices_plain : (n : ℕ) (q : List ℕ) → AllBelow n q → map (index_at (plain n)) q ≡ q
indices_plain n [] h = refl
indices_plain n (i ∷ q) h = ap₂ (λ (x : ℕ) (l : List ℕ). x ∷ l) (index_plain n i h.0) (indices_plain n q h.1)

phase_plain : (n : ℕ) (q : List ℕ) (f : Phase) → Below n q f → renamed_phase (index_at (plain n)) f ≡ f
phase_plain n q Down h = refl
phase_plain n q Handed h = refl
phase_plain n q (Back i) h = ap Back (index_plain n i h.phase)
phase_plain n q Ended h = refl

-- ---- candidates and pick sequences
pub candidates-plain : (n : ℕ) (r : List ℕ) → length r ≡ n → (q : List ℕ) → AllBelow n q → candidates_by (plain n) r q ≡ candidates r q
candidates-plain n r e q b =
    ap (candidates_by (plain n) r) (sym (indices_plain n q b)) ∙ candidates-placed n (plain n) (plain_arrangement n) r e q b
    ∙ indices_plain n (candidates (arrange (plain n) r) q) (candidates-below n (plain n) (plain_arrangement n) r e q)
    ∙ ap (λ (x : List ℕ). candidates x q) (arrange-plain n r e)

pub sequence_plain : (n : ℕ) (x : List ℕ) → length x ≡ n → pick_seq_by (plain n) x ≡ pick_seq x
sequence_plain n x e =
    sequence_placed n (plain n) (plain_arrangement n) x e
    ∙ indices_plain n (pick_seq (arrange (plain n) x)) (sequence_below n (plain n) (plain_arrangement n) x e) ∙ ap pick_seq (arrange-plain n x e)

places_plain : (n : ℕ) (x : List ℕ) → length x ≡ n → places_of (plain n) x ≡ pick_seq x
places_plain n x e = places_placed n (plain n) (plain_arrangement n) x e ∙ ap pick_seq (arrange-plain n x e)

-- ---- lists and growing
pub list_plain : (t : Table) (s : Side) → Fair t s → (xs : List (List ℕ)) → PreferredList t s (plain s.count) xs ↔ SideList (table_rows t) (sequence_of s) xs
list_plain t s f xs = (
  list_keys (table_rows t) (list_key s (plain s.count)) (sequence_of s) same xs,
  list_keys (table_rows t) (sequence_of s) (list_key s (plain s.count)) (λ x m. sym (same x m)) xs,
)
  where
    same : (x : List ℕ) → IsMaximal (table_rows t) x → list_key s (plain s.count) x ≡ sequence_of s x
    same x m = places_plain s.count (s.view x) ((f.over x m).0.within.size ∙ f.counted)

-- 01's list of a side is the one by number, of any table
pub base_list : (t : Table) (s : Side) (xs : List (List ℕ)) → BaseList t s xs ↔ SideList (table_rows t) (sequence_of s) xs
base_list t s xs = (
  list_keys (table_rows t) (λ x. base_key (s.view x)) (sequence_of s) (λ x m. places_plain (length (s.view x)) (s.view x) refl) xs,
  list_keys (table_rows t) (sequence_of s) (λ x. base_key (s.view x)) (λ x m. sym (places_plain (length (s.view x)) (s.view x) refl)) xs,
)

-- and the one under the plain preference
pub base_plain : (t : Table) (s : Side) → Fair t s → (xs : List (List ℕ)) → PreferredList t s (plain s.count) xs ↔ BaseList t s xs
base_plain t s f xs = (λ l. (base_list t s xs).1 ((list_plain t s f xs).0 l), λ l. (list_plain t s f xs).1 ((base_list t s xs).0 l))

-- the gauge list is the order by key of sets alone, and every table has one; a legal table has a case list
pub base_keys : (r : List ℕ) (xs : List (List ℕ)) → SideList r pick_seq xs → SideList r base_key xs
base_keys r xs l = list_keys r pick_seq base_key (λ x m. sym (places_plain (length x) x refl)) xs l

pub gauge_list_of : (t : Table) → GaugeList t (chains_in_order (table_rows t))
gauge_list_of t = base_keys (table_rows t) (chains_in_order (table_rows t)) (gauge_list (table_rows t))

pub lists_exist : (t : Table) → Legal t → ((xs : List (List ℕ)) × GaugeList t xs) × ((ys : List (List ℕ)) × CaseList t ys)
lists_exist t l =
    let g = gauge_fair t l in
    let c = case_fair t l in (
      (side_list t (gauge_side t) g, (base_list t (gauge_side t) (side_list t (gauge_side t) g)).1 (side_list_lem t (gauge_side t) g)),
      (side_list t (case_side t) c, (base_list t (case_side t) (side_list t (case_side t) c)).1 (side_list_lem t (case_side t) c)),
    )

-- the first set by one key is the first by another that agrees with it on the maximal chains
first_keys : (r : List ℕ) (key other : List ℕ → List ℕ) (s x : List ℕ) → ((y : List ℕ) → IsMaximal r y → key y ≡ other y) → FirstContaining r key s x
    → FirstContaining r other s x
first_keys r key other s x same f = record {
  maximal = f.maximal;
  contains = f.contains;
  first = λ y m q. go y m (f.first y m q);
}
  where
    go : (y : List ℕ) → IsMaximal r y → (y ≡ x) ⊎ Earlier key x y → (y ≡ x) ⊎ Earlier other x y
    go y m (inl d) = inl d
    go y m (inr b) = inr (rw (same x f.maximal, same y m) at b)

pub first_plain : (n : ℕ) (r s x : List ℕ) → length r ≡ n → FirstContaining r (places_of (plain n)) s x ↔ FirstContaining r pick_seq s x
first_plain n r s x e = (
  first_keys r (places_of (plain n)) pick_seq s x (λ y m. places_plain n y (m.within.size ∙ e)),
  first_keys r pick_seq (places_of (plain n)) s x (λ y m. sym (places_plain n y (m.within.size ∙ e))),
)

-- and the first in 01's own order
pub first_base : (n : ℕ) (r s x : List ℕ) → length r ≡ n → FirstContaining r (places_of (plain n)) s x → FirstContaining r base_key s x
first_base n r s x e =
    first_keys r (places_of (plain n)) base_key s x (λ y m. ap (λ (k : ℕ). places_of (plain k) y) (sym (m.within.size ∙ e)))

-- ---- calls that stay as they are where every state does
module _ {f : ℕ → ℕ} {good : State → Type 0} {mv mv' : State → Move} {out out' : List ℕ → List ℕ} (w : Follows f good mv mv')
    (u : SameOut f good mv out out') (same : (x : State) → good x → renamed f x ≡ x) where
  calls_same : (bs : List ℕ) (x : State) → good x → map (renamed_call f) (calls_by mv out bs x) ≡ calls_by mv out bs x
  calls_same [] x h = refl
  calls_same (b ∷ bs) x h =
      let g = call_stays w u b x h in
      ap₂ (λ (c : Call) (cs : List Call). c ∷ cs)
      (ap (λ (y : State). record { answer = (call_by mv out b x).answer; moves = (call_by mv out b x).moves; next = y }) (same (call_by mv out b x).next g))
      (calls_same bs (call_by mv out b x).next g)

  state_same : (bs : List ℕ) (x : State) → good x → good (state_by mv out bs x)
  state_same [] x h = h
  state_same (b ∷ bs) x h = state_same bs (call_by mv out b x).next (call_stays w u b x h)

-- ---- the run of a side
module _ (s : Side) (counted : length s.rows ≡ s.count) where
  abbrev order : List ℕ
  order = plain s.count

  arranges : IsArrangement s.count order
  arranges = plain_arrangement s.count

  rows_same : (prefer order s).rows ≡ s.rows
  rows_same = arrange-plain s.count s.rows counted

  -- the sets handed out
  out_same : hand_out (prefer order s) ≡ hand_out s
  out_same = fun_ext (λ q. ap s.by_gauges (chain q))
    where
      chain : (q : List ℕ) → unarrange order (chain_of (arrange order s.rows) q) ≡ chain_of s.rows q
      chain q =
          ap (λ (r : List ℕ). unarrange order (chain_of r q)) rows_same
          ∙ ap (unarrange order) (sym (arrange-plain s.count (chain_of s.rows q) (length-chain_of s.rows q ∙ counted)))
          ∙ unarrange-arrange s.count order arranges (chain_of s.rows q) (length-chain_of s.rows q ∙ counted)

  abbrev Fit : State → Type 0
  Fit x = Fits (candidates s.rows) x.picks x.phase

  -- a run by number on the rows is one on the arranged rows
  pub plain_follows : Follows (index_at order) Fit (move (candidates s.rows)) (move_on s order)
  plain_follows =
      subst (λ (r : List ℕ). Follows (index_at order) (λ x. Fits (candidates r) x.picks x.phase) (move (candidates r)) (move_on s order)) rows_same
      (follows s order counted arranges)

  plain_out : SameOut (index_at order) Fit (move (candidates s.rows)) (hand_out s) (hand_out s)
  plain_out =
      subst
      (λ (r : List ℕ). SameOut (index_at order) (λ x. Fits (candidates r) x.picks x.phase) (move (candidates r)) (hand_out s) (hand_out s))
      rows_same
      (subst
      (λ (out : List ℕ → List ℕ). SameOut (index_at order) (Good s order counted arranges) (move (candidates (prefer order s).rows)) out (hand_out s))
      out_same (same_out s order counted arranges))

  fit_good : (x : State) → Fit x → Good s order counted arranges x
  fit_good x h = subst (λ (r : List ℕ). Fits (candidates r) x.picks x.phase) (sym rows_same) h

  pub state_plain : (x : State) → Fit x → renamed (index_at order) x ≡ x
  state_plain x h =
      let b = good_below s order counted arranges x (fit_good x h) in
      ap₂ at (indices_plain s.count x.picks b.picks) (phase_plain s.count x.picks x.phase b)

  -- ---- moves, states and calls
  pub moves_plain : (x : State) → Fit x → move_on s order x ≡ move (candidates s.rows) x
  moves_plain x h =
      ap (move_on s order) (sym (state_plain x h)) ∙ plain_follows.same_move x h ∙ stays-given (move (candidates s.rows) x) (plain_follows.stays x h) refl
    where
      handed-picks : (p : List ℕ) → (move (candidates s.rows) x).given ≡ hands p → map (index_at order) p ≡ p
      handed-picks p d =
          let q : p ≡ x.picks = step_hands (candidates s.rows) x.picks x.phase p d in
          indices_plain s.count p (subst (AllBelow s.count) (sym q) (good_below s order counted arranges x (fit_good x h)).picks)

      given-plain : (g : Given) → ((p : List ℕ) → g ≡ hands p → map (index_at order) p ≡ p) → renamed_given (index_at order) g ≡ g
      given-plain nothing k = refl
      given-plain (hands p) k = ap hands (k p refl)
      given-plain ends k = refl

      stays-given : (m : Move) → Fit m.next → move (candidates s.rows) x ≡ m → renamed_move (index_at order) m ≡ m
      stays-given m g e = ap₂ gives (given-plain m.given (λ p d. handed-picks p (ap (λ (y : Move). y.given) e ∙ d))) (state_plain m.next g)

  pub reached_plain : (x : State) → ReachedOn s order x ↔ Reached (candidates s.rows) x
  reached_plain x = (
    λ r.
        let p = (reached_placed s order counted arranges x).0 r in
        (reached_fits s.rows x).1
        (subst Fit (sym (state_plain p.state (good-fit p.state p.good)) ∙ p.is) (good-fit p.state p.good)),
    λ r.
        let h = (reached_fits s.rows x).0 r in
        (reached_placed s order counted arranges x).1 (record { state = x; good = fit_good x h; is = state_plain x h }),
  )
    where
      good-fit : (y : State) → Good s order counted arranges y → Fit y
      good-fit y h = subst (λ (r : List ℕ). Fits (candidates r) y.picks y.phase) rows_same h

  pub calls_plain : (bs : List ℕ) → calls_on s order bs ≡ calls (candidates s.rows) (hand_out s) bs
  calls_plain bs = calls-renamed plain_follows plain_out bs fresh tt ∙ calls_same plain_follows plain_out state_plain bs fresh tt

  pub left_plain : (bs : List ℕ) → left_on s order bs ≡ state_after (candidates s.rows) (hand_out s) bs fresh
  left_plain bs = state-renamed plain_follows plain_out bs fresh tt ∙ state_plain _ (state_same plain_follows plain_out state_plain bs fresh tt)

  pub keeping_plain : (keep : List ℕ → Bool) (bs : List ℕ)
      → calls_keeping s order keep bs ≡ calls_by (move_keeping (move (candidates s.rows)) (hand_out s) keep) (hand_out s) bs fresh
  keeping_plain keep bs =
      let w = keeping_follows plain_follows (hand_out s) (hand_out s) keep keep (λ x h p e. ap keep (plain_out.same_out x h p e)) in
      let u = keeping_out keep plain_out in
      calls-renamed w u bs fresh tt ∙ calls_same w u state_plain bs fresh tt
