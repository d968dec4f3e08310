-- A run that goes by place makes the moves of the run on the arranged rows, which goes by number there, each place by its index (`follows`): so it
-- reaches the same states (`reached_placed`) and hands out the same sets, by gauge rows (`hand_out_placed`). `good` states are those of the run
-- on the arranged rows.
--
-- In order: chains; picks and phases below the number of rows; the moves; the states reached.
--
-- Elsewhere: calls that follow one another so, crate `rules`, Renaming.antt.
use mathlib.Core.Path.{◌≡◌, refl, sym, ap, ap₂, ◌∙◌, subst}
use mathlib.Core.Logic.{◌↔◌}
use mathlib.Core.Option.{Option, none, some}
use mathlib.Core.List.{List, [], ◌∷◌, ◌++◌, head?, map}
use Prim.Native.Nat.{ℕ, ◌≤◌, ◌<◌}
use native.Mathlib.Decide.{ℕ_discrete}
use native.Mathlib.Omega.{arith}
use lib.ListN.{length}
use lib.Seq.{ext_get_or}
use Rattle.basics.proofs.Clash.{clash}
use Rattle.table.specs.Pairs.{row}
use Rattle.rules.specs.Machine.{Phase, Down, Handed, Back, Ended, State, at, fresh, hands, Cut, empty, cut, cut_last, take_back, down, back}
use Rattle.rules.specs.ByNumber.{above, step}
use Rattle.rules.specs.Machine.{after_by}
use Rattle.rules.specs.ByNumber.{move}
use Rattle.rules.specs.private.Fitting.{ValidFrom, Valid, Fits}
use Rattle.rules.proofs.Sequences.{All_append}
use Rattle.rules.proofs.Progress.{move_fits}
use Rattle.rules.proofs.Renaming.{renamed, renamed_phase, map_snoc, Below, Renames, moves_renamed, Follows, SameOut, after_renamed}
use Rattle.lists.specs.Arrangements.{IsArrangement, place_of}
use Rattle.lists.specs.ByNumber.{candidates}
use Rattle.lists.specs.Preferred.{candidates_by}
use Rattle.lists.specs.Lists.{Side}
use Rattle.lists.specs.OnTable.{chain_row, chain_of, hand_out, move_on, ReachedOn}
use Rattle.lists.specs.private.Arranging.{index_at, arrange, unarrange, prefer}
use Rattle.lists.proofs.Standing.{index_place, place_below, place_index, index_injective}
use Rattle.lists.proofs.Arranging.{length-arrange, unarrange_moves}
use Rattle.lists.proofs.Candidates.{mem_candidates}
use Rattle.lists.proofs.CandidateTree.{candidate_tree, reached_fits}
use Rattle.lists.proofs.ChainRows.{row_none, row_hit, row_miss, length-chain_of, row-chain_of}
use Rattle.lists.proofs.PlacedCandidates.{AllBelow, places_back, remainder-placed, candidates-placed, candidates-below}

-- ---- picks and phases of the rows r are below their number
valid_below : (r q l : List ℕ) → ValidFrom (candidates r) q l → AllBelow (length r) l
valid_below r q [] v = tt
valid_below r q (i ∷ l) v = (((mem_candidates r q i).0 v.0).below, valid_below r (q ++ (i ∷ [])) l v.1)

fits_below : (r q : List ℕ) (f : Phase) → Fits (candidates r) q f → Below (length r) q f
fits_below r q Down h = record { picks = valid_below r [] q h; phase = tt }
fits_below r q Handed h = record { picks = valid_below r [] q h.0; phase = tt }
fits_below r q (Back i) h = record { picks = valid_below r [] q h.0; phase = ((mem_candidates r q i).0 h.1).below }
fits_below r q Ended h = record { picks = subst (AllBelow (length r)) (sym h) tt; phase = tt }

-- ---- a move hands out the picks that there are
take_hands : (c : Cut) (p : List ℕ) → (take_back c).given ≡ hands p → ⊥
take_hands empty p e = clash cc
take_hands (cut q g) p e = clash cc

pub step_hands : (kids : List ℕ → List ℕ) (q : List ℕ) (f : Phase) (p : List ℕ) → (step kids q f).given ≡ hands p → p ≡ q
step_hands kids q Down p = go (head? (kids q))
  where
    go : (o : Option ℕ) → (down q o).given ≡ hands p → p ≡ q
    go none e = cc
    go (some g) e = clash cc
step_hands kids q Handed p = λ e. absurd (take_hands (cut_last q) p e)
step_hands kids q (Back g) p = go (head? (above g (kids q)))
  where
    go : (o : Option ℕ) → (back q o).given ≡ hands p → p ≡ q
    go none e = absurd (take_hands (cut_last q) p e)
    go (some h) e = clash cc
step_hands kids q Ended p = λ e. clash cc

-- ---- chains
module _ (n : ℕ) (o : List ℕ) (a : IsArrangement n o) (r : List ℕ) (e : length r ≡ n) where
  abbrev num : ℕ → ℕ
  num = index_at o

  pub row_placed : (p q : List ℕ) → AllBelow n p → AllBelow n q → (j : ℕ) → j < n → chain_row r (map num p) (map num q) (num j) ≡ chain_row (arrange o r) p q j
  row_placed p [] bp bq j l = row_none r (map num p) (num j) ∙ sym (row_none (arrange o r) p j)
  row_placed p (g ∷ q) bp bq j l = go (ℕ_discrete j g) (row_placed (p ++ (g ∷ [])) q (All_append (λ (i : ℕ). i < n) p (g ∷ []) bp (bq.0, tt)) bq.1 j l)
    where
      go : Dec (j ≡ g) → chain_row r (map num (p ++ (g ∷ []))) (map num q) (num j) ≡ chain_row (arrange o r) (p ++ (g ∷ [])) q j
          → chain_row r (map num p) (num g ∷ map num q) (num j) ≡ chain_row (arrange o r) p (g ∷ q) j
      go (yes d) ih =
          row_hit r (map num p) (num g) (map num q) (num j) (ap num d) ∙ remainder-placed n o a r e p g bp bq.0 ∙ sym (row_hit (arrange o r) p g q j d)
      go (no d) ih =
          row_miss r (map num p) (num g) (map num q) (num j) (λ z. d (index_injective n o a j g l bq.0 z))
          ∙ ap (λ (x : List ℕ). chain_row r x (map num q) (num j)) (sym (map_snoc num p g)) ∙ ih ∙ sym (row_miss (arrange o r) p g q j d)

  pub chain_placed : (q : List ℕ) → AllBelow n q → chain_of r (map num q) ≡ unarrange o (chain_of (arrange o r) q)
  chain_placed q b =
      ext_get_or 0 (chain_of r (map num q)) (unarrange o (chain_of (arrange o r) q))
      (length-chain_of r (map num q) ∙ e ∙ sym ((unarrange_moves n o a).size (chain_of (arrange o r) q)))
      (λ i l. at_row i (omega (arith, length-chain_of r (map num q), e)))
    where
      at_row : (i : ℕ) → i < n → row (chain_of r (map num q)) i ≡ row (unarrange o (chain_of (arrange o r) q)) i
      at_row i l =
          row-chain_of r (map num q) i
          ∙ ap (chain_row r [] (map num q)) (sym (index_place n o a i l))
          ∙ row_placed [] q tt b (place_of o i) (place_below n o a i l)
          ∙ sym ((unarrange_moves n o a).at (chain_of (arrange o r) q) i l ∙ row-chain_of (arrange o r) q (place_of o i))

-- ---- the run of a side under a preference
module _ (s : Side) (o : List ℕ) (counted : length s.rows ≡ s.count) (a : IsArrangement s.count o) where
  abbrev n : ℕ
  n = s.count

  abbrev rows : List ℕ
  rows = (prefer o s).rows

  size : length rows ≡ n
  size = length-arrange n o a s.rows

  -- the states of the run on the arranged rows
  abbrev pub Good : State → Type 0
  Good x = Fits (candidates rows) x.picks x.phase

  pub good_below : (x : State) → Good x → Below n x.picks x.phase
  good_below x h = subst (λ (m : ℕ). Below m x.picks x.phase) size (fits_below rows x.picks x.phase h)

  -- and no more picks than rows
  pub good_short : (x : State) → Good x → length x.picks ≤ n
  good_short x h = omega (arith, size, (candidate_tree rows).depth x.picks (valid x.phase h))
    where
      valid : (f : Phase) → Fits (candidates rows) x.picks f → Valid (candidates rows) x.picks
      valid Down v = v
      valid Handed v = v.0
      valid (Back i) v = v.0
      valid Ended v = subst (Valid (candidates rows)) (sym v) tt

  pub hand_out_placed : (q : List ℕ) → AllBelow n q → hand_out s (map (index_at o) q) ≡ hand_out (prefer o s) q
  hand_out_placed q b = ap s.by_gauges (chain_placed n o a s.rows counted q b)

  renames : Renames n (index_at o) (place_of o) (candidates rows) (candidates_by o s.rows)
  renames = record {
    back_to = place_index n o a;
    inside = candidates-below n o a s.rows counted;
    kids_are = candidates-placed n o a s.rows counted;
  }

  pub follows : Follows (index_at o) Good (move (candidates rows)) (move_on s o)
  follows = record {
    stays = λ x h. move_fits (candidates rows) (length rows) (candidate_tree rows) x.picks x.phase h;
    same_move = λ x h. moves_renamed n (index_at o) (place_of o) (candidates rows) (candidates_by o s.rows) renames x (good_below x h);
  }

  -- the picks that a move hands out are below n too
  pub handed_below : (x : State) → Good x → (p : List ℕ) → (move (candidates rows) x).given ≡ hands p → AllBelow n p
  handed_below x h p e =
      let d : p ≡ x.picks = step_hands (candidates rows) x.picks x.phase p e in
      subst (AllBelow n) (sym d) (good_below x h).picks

  pub same_out : SameOut (index_at o) Good (move (candidates rows)) (hand_out (prefer o s)) (hand_out s)
  same_out = record { same_out = λ x h p e. hand_out_placed p (handed_below x h p e) }

  -- ---- the states that are reached
  pub record Placed (y : State) : Type 0 where
    pub state : State
    pub good : Good state
    pub is : renamed (index_at o) state ≡ y

  pub reached_placed : (y : State) → ReachedOn s o y ↔ Placed y
  reached_placed y = (
    λ r. record {
      state = after r.count;
      good = (reached_fits rows (after r.count)).0 (record { count = r.count; leads = refl });
      is = sym (after_renamed follows r.count fresh tt) ∙ r.leads;
    },
    λ p.
        let k = (reached_fits rows p.state).1 p.good in
        record { count = k.count; leads = after_renamed follows k.count fresh tt ∙ ap (renamed (index_at o)) k.leads ∙ p.is },
  )
    where
      after : ℕ → State
      after k = after_by (move (candidates rows)) k fresh

  -- one state for each
  phase_back : (f : Phase) → Below n [] f → renamed_phase (place_of o) (renamed_phase (index_at o) f) ≡ f
  phase_back Down h = refl
  phase_back Handed h = refl
  phase_back (Back i) h = ap Back (place_index n o a i h.phase)
  phase_back Ended h = refl

  pub renamed_back : (x : State) → Good x → renamed (place_of o) (renamed (index_at o) x) ≡ x
  renamed_back x h =
      ap₂ at (places_back n o a x.picks (good_below x h).picks) (phase_back x.phase (record { picks = tt; phase = (good_below x h).phase }))
