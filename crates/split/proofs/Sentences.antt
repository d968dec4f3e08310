-- What a reader finds in the promises about parts, sentence by sentence. Of a part (`Divides`): it is a part by
-- itself (`part_itself`); the parts of its candidates may take its place, and their lists, one after the other, are
-- then still the list (`part_replaced`, `candidates_join`); what the runs of parts of the whole list hand over, one
-- after the other, is what a run of the whole list does (`whole_joins`). Of the run calls from a part (`PartRun`):
-- what they hand out of it is a front of its list, and all of it once it is closed (`part_handed`, `closed_handed`);
-- a call that is spent where the run's picks have left the part's closes it (`left_closes`), and nothing of the part
-- comes later (`nothing_later`); until then every ladder is of the part (`inside_handed`). Of any choice of parts in
-- place of a part, each run to its close (`WholeRun`): what they hand out, one after the other, is what a run hands
-- over of the part's list (`whole_handed`), which from a fresh start is the whole list (`whole_list`, `fresh_whole`).
use mathlib.Core.Path.{◌≡◌, refl, sym, ap, ◌∙◌}
use mathlib.Core.Bool.{Bool, true, false, ◌||◌}
use mathlib.Core.List.{List, [], ◌∷◌, ◌++◌, map}
use Prim.Native.Nat.{ℕ}
use Rattle.basics.proofs.Clash.{clash}
use Rattle.table.specs.declared.Table.{Table}
use Rattle.rules.specs.Machine.{Down, at, fresh}
use Rattle.lists.specs.Lists.{Side, PreferredList}
use Rattle.lists.proofs.Listed.{list_unique}
use Rattle.preference.specs.Preferences.{preferred_refusal}
use Rattle.parts.specs.Parts.{PartList, Splits, PartLists, joined, split_at}
use Rattle.parts.specs.Calls.{closes}
use Rattle.parts.proofs.Joining.{part_unique}
use Rattle.runs.specs.Paused.{Value, paused}
use Rattle.rules.specs.Calls.{spent}
use Rattle.runs.specs.Calling.{Step, arrangement, held, value_refusal, PausedAt, last_value}
use Rattle.runs.specs.Demand.{handed_sets}
use Rattle.split.specs.Listing.{is_of_part, is_in_part, part_sets, is_closed, handed_over, PartRun, ListsPart}
use Rattle.split.specs.Entries.{Divides}
use Rattle.split.specs.Whole.{Choice, ClosedRun, EachClosed, sets_of_all, WholeRun, ListsWhole}

-- ---- a part, and the parts of its candidates
pub part_itself : (t : Table) (s : Side) (o p : List ℕ) → Divides t s o p → Splits t s o p (p ∷ [])
part_itself t s o p d = d.itself

-- the lists of the candidates' parts are, one after the other, the part's
pub candidates_join : (t : Table) (s : Side) (o p : List ℕ) → Divides t s o p → (xss : List (List (List ℕ))) → PartLists t s o (split_at s o p) xss
    → PartList t s o p (joined xss)
candidates_join t s o p d xss l = d.joins p (split_at s o p) xss d.splits l

-- and so where the part is one of several
pub part_replaced : (t : Table) (s : Side) (o p : List ℕ) → Divides t s o p → (q : List ℕ) (b c : List (List ℕ)) (xss : List (List (List ℕ)))
    → Splits t s o q (b ++ (p ∷ c)) → PartLists t s o (b ++ (split_at s o p ++ c)) xss → PartList t s o q (joined xss)
part_replaced t s o p d q b c xss h l = d.joins q (b ++ (split_at s o p ++ c)) xss (d.more q b c h) l

-- of parts that split the empty sequence: their lists are, one after the other, the side's list, and what is handed
-- over of them that of a run
pub whole_joins : (t : Table) (s : Side) (o p : List ℕ) → Divides t s o p → (ps : List (List ℕ)) (xss : List (List (List ℕ))) → Splits t s o [] ps
    → PartLists t s o ps xss → (xs : List (List ℕ)) → PreferredList t s o xs
    → (joined xss ≡ xs) × ((omit : Bool) → joined (map (handed_over t omit) xss) ≡ handed_over t omit xs)
whole_joins t s o p d ps xss h l xs k = (same, λ omit. d.handed omit xss ∙ ap (handed_over t omit) same)
  where
    same : joined xss ≡ xs
    same = list_unique (joined xss) xs (d.whole ps xss h l) k

-- ---- the calls that list a part whose list is xs
pub part_handed : (side : Table → Side) (v : Value) (p : List ℕ) (rs : List Step) → PartRun side v p rs
    → (xs : List (List ℕ)) → PartList v.table (side v.table) (held side v) p xs
    → ((rest : List (List ℕ)) × (part_sets v rs ++ rest ≡ handed_over v.table v.omit xs))
    × (is_closed v rs ≡ true → part_sets v rs ≡ handed_over v.table v.omit xs)
part_handed side v p rs r xs l = ((r.front.0, r.front.1 ∙ over), λ c. r.complete c ∙ over)
  where
    over : handed_over v.table v.omit r.list ≡ handed_over v.table v.omit xs
    over = ap (handed_over v.table v.omit) (part_unique v.table (side v.table) (held side v) p r.list xs r.listed l)

-- while the run's picks start with the part's, every ladder that was handed out is of the part
pub inside_handed : (side : Table → Side) (v : Value) (p : List ℕ) (rs : List Step) → PartRun side v p rs → is_in_part v (last_value v rs) ≡ true
    → part_sets v rs ≡ handed_sets rs
inside_handed side v p rs r i = r.inside i

-- where they no longer do, the part is closed, also by a call that handed nothing over
pub left_closes : (v : Value) (r : Step) (rs : List Step) → r.answer ≡ spent → is_in_part v r.next ≡ false → is_closed v (r ∷ rs) ≡ true
left_closes v r rs e d = rw (e, d)

closed_more : (v : Value) (rs qs : List Step) → is_closed v rs ≡ true → is_closed v (rs ++ qs) ≡ true
closed_more v [] qs e = clash cc
closed_more v (r ∷ rs) qs e = go (closes r.answer (is_of_part v r) (is_in_part v r.next)) (closed_more v rs qs) e
  where
    go : (b : Bool) → (is_closed v rs ≡ true → is_closed v (rs ++ qs) ≡ true) → (b || is_closed v rs) ≡ true → (b || is_closed v (rs ++ qs)) ≡ true
    go true on e = refl
    go false on e = on e

-- and what later calls hand out is not of it
pub nothing_later : (side : Table → Side) (v : Value) (p : List ℕ) (rs qs : List Step) → PartRun side v p rs → PartRun side v p (rs ++ qs)
    → is_closed v rs ≡ true → part_sets v (rs ++ qs) ≡ part_sets v rs
nothing_later side v p rs qs a b e =
    b.complete (closed_more v rs qs e)
    ∙ ap (handed_over v.table v.omit) (part_unique v.table (side v.table) (held side v) p b.list a.list b.listed a.listed)
    ∙ sym (a.complete e)

-- a run of it that is closed
pub closed_handed : (side : Table → Side) (v : Value) → ListsPart side v → value_refusal side v ≡ 0 → (p : List ℕ) → PausedAt side v (at p Down)
    → (rs : List Step) → ClosedRun side v rs → (xs : List (List ℕ)) → PartList v.table (side v.table) (held side v) p xs
    → part_sets v rs ≡ handed_over v.table v.omit xs
closed_handed side v lists ok p h rs c xs l = (part_handed side v p rs (lists ok p h c.budgets rs c.calls) xs l).1 c.closed

-- ---- any choice of parts, each run to its close, where the list is xs
module _ (side : Table → Side) (v : Value) (vs : List Value) (rss : List (List Step)) where
  pub whole_handed : (p : List ℕ) → WholeRun side v p vs rss → (xs : List (List ℕ)) → PartList v.table (side v.table) (held side v) p xs
      → sets_of_all vs rss ≡ handed_over v.table v.omit xs
  whole_handed p r xs l =
      r.handed
      ∙ ap (handed_over v.table v.omit) (part_unique v.table (side v.table) (held side v) p r.list xs r.listed l)

  pub whole_list : WholeRun side v [] vs rss → (xs : List (List ℕ)) → PreferredList v.table (side v.table) (held side v) xs
      → sets_of_all vs rss ≡ handed_over v.table v.omit xs
  whole_list r xs l = r.handed ∙ ap (handed_over v.table v.omit) (list_unique r.list xs (r.whole refl) l)

-- from the fresh start of a table t with the preference in k
pub fresh_whole : (side : Table → Side) (t : Table) (k : List ℕ) (omit : Bool) → ListsWhole side (paused t k omit fresh)
    → preferred_refusal t (side t).count k ≡ 0 → (vs : List Value) → Choice side (paused t k omit fresh) vs
    → (rss : List (List Step)) → EachClosed side vs rss
    → (xs : List (List ℕ)) → PreferredList t (side t) (arrangement (side t) k) xs → sets_of_all vs rss ≡ handed_over t omit xs
fresh_whole side t k omit whole ok vs c rss e xs l =
    whole_list side (paused t k omit fresh) vs rss
    (whole ok [] (record { reached = record { count = 0; leads = refl }; stands = refl }) vs c rss e) xs l
