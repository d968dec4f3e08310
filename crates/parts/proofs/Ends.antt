-- A run from a part reaches its end: of calls of one move each, one answers end, of a run that hands over the kept
-- sets alone (`part_keeping_ends`) and of one that hands over all (`part_ends`). Whatever else closes a part, an
-- answer of end does, so some list of calls closes every part.
use mathlib.Core.Path.{◌≡◌, refl, sym, ap, ◌∙◌, subst, fun_ext}
use mathlib.Core.Bool.{Bool, true}
use mathlib.Core.List.Memᴰ
use mathlib.Core.List.{List, map, Memᴰ}
use Prim.Native.Nat.{ℕ}
use lib.ListN.{length}
use Rattle.table.specs.declared.Table.{Table}
use Rattle.rules.specs.Machine.{Down, State, at, Given, nothing, hands, ends, Move, gives}
use Rattle.rules.specs.ByNumber.{move}
use Rattle.rules.specs.Calls.{end, Call, calls_by}
use Rattle.rules.specs.Keeping.{taken, move_keeping}
use Rattle.rules.proofs.Renaming.{renamed_call, calls-renamed, keeping_follows, keeping_out}
use Rattle.lists.specs.Arrangements.{IsArrangement}
use Rattle.lists.specs.ByNumber.{candidates}
use Rattle.lists.specs.Lists.{Side}
use Rattle.lists.specs.OnTable.{hand_out, move_on, ReachedOn}
use Rattle.lists.specs.Keeping.{keeping_on}
use Rattle.lists.specs.private.Arranging.{index_at, prefer}
use Rattle.lists.proofs.CandidateTree.{candidate_tree}
use Rattle.lists.proofs.BothSides.{Fair}
use Rattle.lists.proofs.PlacedRuns.{follows, same_out}
use Rattle.parts.proofs.Closing.{keeping-ends}
use Rattle.parts.proofs.Places.{AtPlaces, reached_at}

-- a run that keeps every set makes the moves of one that omits nothing
keeps_all : (mv : State → Move) (out : List ℕ → List ℕ) → move_keeping mv out (λ _. true) ≡ mv
keeps_all mv out = fun_ext (λ x. ap (λ (y : Given). gives y (mv x).next) (same (mv x).given))
  where
    same : (y : Given) → taken out (λ _. true) y ≡ y
    same nothing = refl
    same (hands p) = refl
    same ends = refl

module _ (t : Table) (s : Side) (f : Fair t s) (o : List ℕ) (a : IsArrangement s.count o) (p : List ℕ) (r : ReachedOn s o (at p Down))
    (keep : List ℕ → Bool) where
  abbrev rows : List ℕ
  rows = (prefer o s).rows

  abbrev out : List ℕ → List ℕ
  out = hand_out (prefer o s)

  here : AtPlaces s o f.counted a p
  here = reached_at s o f.counted a p r

  -- its calls by number are those by place, renamed
  abbrev placed : List ℕ → List Call
  placed bs = calls_by (move_keeping (move (candidates rows)) out keep) out bs (at here.places Down)

  renamed : (bs : List ℕ) → calls_by (keeping_on s o keep) (hand_out s) bs (at p Down) ≡ map (renamed_call (index_at o)) (placed bs)
  renamed bs =
      ap (λ (x : List ℕ). calls_by (keeping_on s o keep) (hand_out s) bs (at x Down)) (sym here.is)
      ∙ calls-renamed
      (keeping_follows (follows s o f.counted a) out (hand_out s) keep keep (λ x h l e. ap keep ((same_out s o f.counted a).same_out x h l e)))
      (keeping_out keep (same_out s o f.counted a)) bs (at here.places Down) here.valid

  pub part_keeping_ends : (bs : List ℕ) × (c : Call) × Memᴰ c (calls_by (keeping_on s o keep) (hand_out s) bs (at p Down)) × (c.answer ≡ end)
  part_keeping_ends =
      let e = keeping-ends (candidates rows) (length rows) (candidate_tree rows) out keep here.places here.valid in (
        e.0,
        renamed_call (index_at o) e.1,
        subst (λ (l : List Call). Memᴰ (renamed_call (index_at o) e.1) l) (sym (renamed e.0)) (Memᴰ.map (renamed_call (index_at o)) e.2),
        e.3,
      )

pub part_ends : (t : Table) (s : Side) → Fair t s → (o : List ℕ) → IsArrangement s.count o → (p : List ℕ) → ReachedOn s o (at p Down)
    → (bs : List ℕ) × (c : Call) × Memᴰ c (calls_by (move_on s o) (hand_out s) bs (at p Down)) × (c.answer ≡ end)
part_ends t s f o a p r =
    subst (λ (mv : State → Move). (bs : List ℕ) × (c : Call) × Memᴰ c (calls_by mv (hand_out s) bs (at p Down)) × (c.answer ≡ end))
    (keeps_all (move_on s o) (hand_out s)) (part_keeping_ends t s f o a p r (λ _. true))
