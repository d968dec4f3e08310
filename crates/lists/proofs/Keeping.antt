-- What holds of a whole list of calls of a run that omits (`demand_keeping`), by the laws of crate `rules` at the
-- candidates of the arranged rows, whose calls these are, place by index (`keeping_placed`), and by the list theorem.
-- It leaves one list of calls (`keeping_unique`, and by what it says of each call alone, `keeping_each`); some list
-- of calls reaches the end (`keeping_ends`); a run with nothing to omit makes the calls of demand 3 (`keeping_all`);
-- and the kept part of a list is in its order (`kept_ascends`).
use mathlib.Core.Path.{◌≡◌, refl, sym, ap, ◌∙◌, subst}
use mathlib.Core.Bool.{Bool, true}
use mathlib.Core.List.Memᴰ
use mathlib.Core.List.{List, ◌++◌, map, Memᴰ}
use Prim.Native.Nat.{ℕ}
use lib.ListN.{length}
use Rattle.table.specs.declared.Table.{Table}
use Rattle.rules.specs.Machine.{State, fresh, Move}
use Rattle.rules.specs.ByNumber.{move}
use Rattle.rules.specs.Calls.{end, Call, calls_by, handouts}
use Rattle.rules.proofs.Reports.{all_only18, all_whole, all_spent, one_list}
use Rattle.rules.specs.Sequences.{Sorted}
use Rattle.rules.specs.Keeping.{move_keeping, kept_sets}
use Rattle.rules.proofs.Kept.{kept_sorted}
use Rattle.rules.proofs.Keeping.{kept_front, kept_complete, kept_ends, all_kept}
use Rattle.rules.proofs.Renaming.{renamed_call, calls-renamed, keeping_follows, keeping_out, handouts_renamed}
use Rattle.lists.specs.Arrangements.{IsArrangement}
use Rattle.lists.specs.ByNumber.{candidates}
use Rattle.lists.specs.Lists.{Earlier, SideList, Side, PreferredList}
use Rattle.lists.specs.OnTable.{hand_out, calls_on}
use Rattle.lists.specs.Keeping.{keeping_on, calls_keeping}
use Rattle.lists.specs.private.Demand.{DemandKeeping}
use Rattle.lists.specs.private.Arranging.{index_at, prefer}
use Rattle.lists.proofs.CandidateTree.{candidate_tree}
use Rattle.lists.proofs.Listed.{list_unique}
use Rattle.lists.proofs.BothSides.{Fair, side_list}
use Rattle.lists.proofs.PreferredSides.{prefer_fair, preferred_list}
use Rattle.lists.proofs.PlacedRuns.{follows, same_out}

module _ (t : Table) (s : Side) (f : Fair t s) (o : List ℕ) (a : IsArrangement s.count o) (keep : List ℕ → Bool) where
  abbrev arranged : Side
  arranged = prefer o s

  abbrev rows : List ℕ
  rows = arranged.rows

  abbrev by_number : State → Move
  by_number = move_keeping (move (candidates rows)) (hand_out arranged) keep

  abbrev made : List ℕ → List Call
  made bs = calls_by by_number (hand_out arranged) bs fresh

  keeping_placed : (bs : List ℕ) → calls_keeping s o keep bs ≡ map (renamed_call (index_at o)) (made bs)
  keeping_placed bs =
      calls-renamed
      (keeping_follows (follows s o f.counted a) (hand_out arranged) (hand_out s) keep keep
      (λ x h p e. ap keep ((same_out s o f.counted a).same_out x h p e)))
      (keeping_out keep (same_out s o f.counted a)) bs fresh tt

  handouts_placed : (bs : List ℕ) → handouts (calls_keeping s o keep bs) ≡ handouts (made bs)
  handouts_placed bs = ap handouts (keeping_placed bs) ∙ handouts_renamed (index_at o) (made bs)

  abbrev listed : List (List ℕ)
  listed = side_list t arranged (prefer_fair t s f o a)

  front_placed : (bs : List ℕ) → (rest : List (List ℕ)) × (handouts (calls_keeping s o keep bs) ++ rest ≡ kept_sets keep listed)
  front_placed bs =
      let r = kept_front (candidates rows) (hand_out arranged) keep (length rows) (candidate_tree rows) bs in
      (r.0, ap (λ (x : List (List ℕ)). x ++ r.0) (handouts_placed bs) ∙ r.1)

  complete_placed : (bs : List ℕ) (c : Call) → Memᴰ c (calls_keeping s o keep bs) → c.answer ≡ end
      → handouts (calls_keeping s o keep bs) ≡ kept_sets keep listed
  complete_placed bs c m e =
      let k = Memᴰ.of_map (renamed_call (index_at o)) (made bs) (subst (λ (cs : List Call). Memᴰ c cs) (keeping_placed bs) m) in
      handouts_placed bs
      ∙ kept_complete (candidates rows) (hand_out arranged) keep (length rows) (candidate_tree rows) bs k.0 k.1 (ap (λ (x : Call). x.answer) k.2 ∙ e)

  pub demand_keeping : (bs : List ℕ) → DemandKeeping t s o keep bs (calls_keeping s o keep bs)
  demand_keeping bs = record {
    only18 = all_only18 (keeping_on s o keep) (hand_out s) bs fresh;
    whole = all_whole (keeping_on s o keep) (hand_out s) bs fresh;
    spent = all_spent (keeping_on s o keep) (hand_out s) bs fresh;
    rules = refl;
    list = listed;
    listed = preferred_list t s f o a;
    front = front_placed bs;
    complete = complete_placed bs;
  }

  pub keeping_ends : (bs : List ℕ) × (c : Call) × Memᴰ c (calls_keeping s o keep bs) × (c.answer ≡ end)
  keeping_ends =
      let r = kept_ends (candidates rows) (hand_out arranged) keep (length rows) (candidate_tree rows) in (
        r.0,
        renamed_call (index_at o) r.1,
        subst (λ (cs : List Call). Memᴰ (renamed_call (index_at o) r.1) cs) (sym (keeping_placed r.0)) (Memᴰ.map (renamed_call (index_at o)) r.2),
        r.3,
      )

  -- every set of the side's list is kept
  pub keeping_all : (xs : List (List ℕ)) → PreferredList t s o xs → ((x : List ℕ) → Memᴰ x xs → keep x ≡ true)
      → (bs : List ℕ) → calls_keeping s o keep bs ≡ calls_on s o bs
  keeping_all xs l h bs =
      keeping_placed bs
      ∙ ap (map (renamed_call (index_at o)))
      (all_kept (candidates rows) (hand_out arranged) keep (length rows) (candidate_tree rows)
      (λ p m. h (hand_out arranged p) (rw (list_unique xs listed l (preferred_list t s f o a)) (Memᴰ.map (hand_out arranged) m))) bs)
      ∙ sym (calls-renamed (follows s o f.counted a) (same_out s o f.counted a) bs fresh tt)

-- "in the same order": the kept part of a list ascends as the list does
pub kept_ascends : (keep : List ℕ → Bool) (r : List ℕ) (key : List ℕ → List ℕ) (xs : List (List ℕ)) → SideList r key xs
    → Sorted (Earlier key) (kept_sets keep xs)
kept_ascends keep r key xs l = kept_sorted keep (Earlier key) xs l.ascends

-- one list of calls
pub keeping_unique : (t : Table) (s : Side) (o : List ℕ) (keep : List ℕ → Bool) (bs : List ℕ) (cs ds : List Call)
    → DemandKeeping t s o keep bs cs → DemandKeeping t s o keep bs ds → cs ≡ ds
keeping_unique t s o keep bs cs ds a b = a.rules ∙ sym b.rules

pub keeping_each : (t : Table) (s : Side) (o : List ℕ) (keep : List ℕ → Bool) (bs : List ℕ) (cs : List Call) → DemandKeeping t s o keep bs cs
    → cs ≡ calls_keeping s o keep bs
keeping_each t s o keep bs cs d = one_list (keeping_on s o keep) (hand_out s) bs fresh cs d.only18 d.whole
