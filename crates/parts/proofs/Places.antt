-- Parts of a side under a preference, by place: a part is reached where its places are a valid sequence of the arranged rows (`reached_at`, `at_reached`),
-- its candidates are those by place (`candidates_at`), and the pick sequence of a maximal chain is a leaf, each place by its index (`leaf_picks`,
-- `maximal_picks`). So what starts with what is the same by place (`starts_places`, `starts_indices`).
use mathlib.Core.Path.{◌≡◌, refl, sym, ap, ◌∙◌, subst}
use mathlib.Core.List.Memᴰ
use mathlib.Core.List.{List, [], ◌++◌, map, Memᴰ}
use Prim.Native.Nat.{ℕ}
use lib.ListN.{length}
use Rattle.basics.proofs.Clash.{clash}
use Rattle.table.specs.declared.Table.{Table}
use Rattle.table.specs.Chains.{IsMaximal}
use Rattle.table.specs.Tables.{table_rows}
use Rattle.rules.specs.Machine.{Phase, Down, Handed, Back, Ended, State, at}
use Rattle.rules.specs.private.Fitting.{Valid, Fits}
use Rattle.rules.proofs.Leaves.{leaf-iff}
use Rattle.rules.proofs.Renaming.{renamed_phase}
use Rattle.lists.specs.Arrangements.{IsArrangement, place_of}
use Rattle.lists.specs.ByNumber.{pick_seq}
use Rattle.lists.specs.ByNumber.{candidates}
use Rattle.lists.specs.Preferred.{candidates_by}
use Rattle.lists.specs.Lists.{Side}
use Rattle.lists.specs.OnTable.{chain_of, hand_out, ReachedOn}
use Rattle.lists.specs.private.Arranging.{index_at, prefer}
use Rattle.lists.proofs.CandidateTree.{candidate_tree}
use Rattle.lists.proofs.Maximal.{leaf_maximal, leaf_pick_seq}
use Rattle.lists.proofs.Listed.{picks_in_order}
use Rattle.lists.proofs.BothSides.{Fair}
use Rattle.lists.proofs.PreferredSides.{prefer_fair, preferred_list}
use Rattle.lists.proofs.PlacedCandidates.{AllBelow, places_back, candidates-placed}
use Rattle.lists.proofs.PlacedSequences.{sequence_placed}
use Rattle.lists.proofs.PlacedRuns.{good_below, Placed, reached_placed}
use Rattle.parts.specs.Parts.{StartsWith, picks_of}
use Rattle.parts.proofs.Prefixes.{map_append}

module _ (s : Side) (o : List ℕ) (counted : length s.rows ≡ s.count) (a : IsArrangement s.count o) where
  abbrev pub placed_rows : List ℕ
  placed_rows = (prefer o s).rows

  -- the picks p, by place, which are a valid sequence of the arranged rows
  pub record AtPlaces (p : List ℕ) : Type 0 where
    pub places : List ℕ
    pub valid : Valid (candidates placed_rows) places
    pub is : map (index_at o) places ≡ p

  pub valid_low : (q : List ℕ) → Valid (candidates placed_rows) q → AllBelow s.count q
  valid_low q v = (good_below s o counted a (at q Down) v).picks

  pub reached_at : (p : List ℕ) → ReachedOn s o (at p Down) → AtPlaces p
  reached_at p r = from ((reached_placed s o counted a (at p Down)).0 r)
    where
      down-phase : (g : Phase) → renamed_phase (index_at o) g ≡ Down → g ≡ Down
      down-phase Down e = refl
      down-phase Handed e = clash cc
      down-phase (Back i) e = clash cc
      down-phase Ended e = clash cc

      from : Placed s o counted a (at p Down) → AtPlaces p
      from x = record {
        places = x.state.picks;
        valid = subst (λ (g : Phase). Fits (candidates placed_rows) x.state.picks g) (down-phase x.state.phase (ap (λ (y : State). y.phase) x.is))
            x.good;
        is = ap (λ (y : State). y.picks) x.is;
      }

  pub at_reached : (p : List ℕ) → AtPlaces p → ReachedOn s o (at p Down)
  at_reached p x =
      (reached_placed s o counted a (at p Down)).1
      (record { state = at x.places Down; good = x.valid; is = ap (λ (l : List ℕ). at l Down) x.is })

  pub candidates_at : (p : List ℕ) (x : AtPlaces p) → candidates_by o s.rows p ≡ map (index_at o) (candidates placed_rows x.places)
  candidates_at p x =
      ap (candidates_by o s.rows) (sym x.is) ∙ candidates-placed s.count o a s.rows counted x.places (valid_low x.places x.valid)

  -- ---- what starts with what
  pub starts_indices : (q l : List ℕ) → StartsWith q l → StartsWith (map (index_at o) q) (map (index_at o) l)
  starts_indices q l h = record { rest = map (index_at o) h.rest; is = ap (map (index_at o)) h.is ∙ map_append (index_at o) q h.rest }

  pub starts_places : (q l : List ℕ) → AllBelow s.count q → AllBelow s.count l → StartsWith (map (index_at o) q) (map (index_at o) l) → StartsWith q l
  starts_places q l bq bl h = record {
    rest = map (place_of o) h.rest;
    is = sym (places_back s.count o a l bl) ∙ ap (map (place_of o)) h.is ∙ map_append (place_of o) (map (index_at o) q) h.rest
        ∙ ap (λ (x : List ℕ). x ++ map (place_of o) h.rest) (places_back s.count o a q bq);
  }

-- ---- the pick sequence of a maximal chain
module _ (t : Table) (s : Side) (f : Fair t s) (o : List ℕ) (a : IsArrangement s.count o) where
  abbrev rows : List ℕ
  rows = (prefer o s).rows

  pub leaf_of : (l : List ℕ) → Memᴰ l (picks_in_order rows) → Valid (candidates rows) l × (candidates rows l ≡ [])
  leaf_of l m = (leaf-iff (candidates rows) (length rows) (candidate_tree rows) l).0 m

  pub leaf_picks : (l : List ℕ) → Memᴰ l (picks_in_order rows) → picks_of s o (hand_out (prefer o s) l) ≡ map (index_at o) l
  leaf_picks l m =
      sequence_placed s.count o a (s.view (hand_out (prefer o s) l)) size
      ∙ ap (map (index_at o)) (ap pick_seq home.1 ∙ leaf_pick_seq rows l (leaf_of l m))
    where
      home : IsMaximal (table_rows t) (hand_out (prefer o s) l) × ((prefer o s).view (hand_out (prefer o s) l) ≡ chain_of rows l)
      home = (prefer_fair t s f o a).home (chain_of rows l) (leaf_maximal rows l (leaf_of l m))

      size : length (s.view (hand_out (prefer o s) l)) ≡ s.count
      size = (f.over (hand_out (prefer o s) l) home.0).0.within.size ∙ f.counted

  pub maximal_picks : (x : List ℕ) → IsMaximal (table_rows t) x → (l : List ℕ) × Memᴰ l (picks_in_order rows) × (picks_of s o x ≡ map (index_at o) l)
  maximal_picks x m =
      let k = Memᴰ.of_map (hand_out (prefer o s)) (picks_in_order rows) (((preferred_list t s f o a).members x).1 m) in
      (k.0, k.1, ap (picks_of s o) (sym k.2) ∙ leaf_picks k.0 k.1)
