-- Batches that list a part. A batch is a list of run calls (runs/specs/Batches, `AddsCalls`), so what is said of a part's calls is said of batches: as long
-- as the value that a batch leaves has picks that start with the part's, all of its ladders are of the part, behind those of the calls before (`batch_inside`),
-- and a front of the part's list. Pins, which nothing else cites: `batch_inside`.
use mathlib.Core.Path.{◌≡◌, refl, sym, ap, ◌∙◌, subst}
use mathlib.Core.Bool.{true}
use mathlib.Core.List.{List, [], ◌∷◌, ◌++◌}
use Prim.Native.Nat.{ℕ}
use Rattle.table.specs.declared.Table.{Table}
use Rattle.rules.specs.Machine.{Down, State, at}
use Rattle.rules.specs.Calls.{Reply, refused, spent, handed, end, answered}
use Rattle.lists.specs.Lists.{Side}
use Rattle.parts.specs.Parts.{PartList}
use Rattle.runs.specs.Paused.{Value, paused}
use Rattle.runs.specs.Calling.{Step, held, value_refusal, PausedAt, kept_value, last_value}
use Rattle.runs.specs.Demand.{handed_sets}
use Rattle.runs.specs.Omitting.{CalledEither, CallsEither}
use Rattle.runs.specs.Batches.{AddsCalls, batch_on, budgets_on, steps_on}
use Rattle.runs.proofs.Demands.{calls_append}
use Rattle.split.specs.Listing.{is_in_part, part_sets, handed_over, ListsPart}

last_append : (v : Value) (rs qs : List Step) → last_value v (rs ++ qs) ≡ last_value (last_value v rs) qs
last_append v [] qs = refl
last_append v (r ∷ rs) qs = last_append (kept_value r.answer v r.next) rs qs

handed_append : (rs qs : List Step) → handed_sets (rs ++ qs) ≡ handed_sets rs ++ handed_sets qs
handed_append [] qs = refl
handed_append (r ∷ rs) qs = by r.answer (handed_append rs qs)
  where
    by : (a : Reply) → handed_sets (rs ++ qs) ≡ handed_sets rs ++ handed_sets qs
        → answered a (handed_sets (rs ++ qs)) ≡ answered a (handed_sets rs) ++ handed_sets qs
    by (refused n) e = e
    by spent e = e
    by (handed x) e = ap (λ (l : List (List ℕ)). x ∷ l) e
    by end e = e

-- v is a part with the picks p, rs the answers of calls from it, which leave u; a batch from u with the budget b and so many words of room leaves a value
-- that is still in the part: the ladders of the calls and of the batch, one after the other, are a front of what the part hands over
pub batch_inside : (side : Table → Side) (v : Value) → ListsPart side v → value_refusal side v ≡ 0 → (p : List ℕ) → PausedAt side v (at p Down)
    → (bs : List ℕ) (rs : List Step) → CallsEither side v bs rs → (u : Value) → last_value v rs ≡ u
    → (words b : ℕ) (s : State) → AddsCalls side u words b s
    → is_in_part v (paused u.table u.order u.omit (batch_on side u words b s).next) ≡ true
    → (list rest : List (List ℕ)) × PartList v.table (side v.table) (held side v) p list
    × ((handed_sets rs ++ (batch_on side u words b s).sets) ++ rest ≡ handed_over v.table v.omit list)
batch_inside side v lists ok p h bs rs c u e words b s k i =
    let qs = steps_on side u words b s in
    let all = calls_append (CalledEither side) v bs rs (budgets_on side u words b s) qs c
    (subst (λ (x : Value). CallsEither side x (budgets_on side u words b s) qs) (sym e) k.calls) in
    let r = lists ok p h (bs ++ budgets_on side u words b s) (rs ++ qs) all in
    let left : is_in_part v (last_value v (rs ++ qs)) ≡ true =
    ap (is_in_part v) (last_append v rs qs ∙ ap (λ (x : Value). last_value x qs) e ∙ k.last) ∙ i in
    let same : part_sets v (rs ++ qs) ≡ handed_sets rs ++ (batch_on side u words b s).sets =
    r.inside left ∙ handed_append rs qs ∙ ap (λ (l : List (List ℕ)). handed_sets rs ++ l) k.handed in
    (r.list, r.front.0, r.listed, ap (λ (l : List (List ℕ)). l ++ r.front.0) (sym same) ∙ r.front.1)
