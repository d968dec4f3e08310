-- `split::takes_pick` meets its contract: the attempt tells (`takes-yes`, `takes-no`).
use mathlib.Core.Path.{◌≡◌, refl, sym, subst}
use Prim.Native.Nat.{ℕ, ◌≤◌}
use borrow.Author.Rules.{rules}
use lib.ListN.{length}
use Rattle.std.specs.Prelude.{Result, Ok, Err}
use Rattle.std.specs.Result.{is_ok}
use Rattle.refusals.specs.declared.Refusal.{Refusal}
use Rattle.refusals.proofs.Answering.{number_pos}
use Rattle.table.specs.declared.Table.{Table}
use Rattle.lists.specs.Lists.{Side}
use Rattle.runs.specs.declared.paused.Run.{Run}
use Rattle.runs.specs.Calling.{value_refusal}
use Rattle.runs.specs.Paused.{Value, value_of}
use Rattle.runs.specs.Sides.{side_of}
use Rattle.runs.proofs.Demands.{Starts}
use Rattle.runs.proofs.Marked.{side_started, side_few}
use Rattle.split.specs.Entries.{part_of}
use Rattle.split.specs.private.Trying.{TriedAt, TakesAt}
use Rattle.split.proofs.Trying.{takes-yes, takes-no}
use Rattle.split.proofs.takes_pick.Goals as goal

told : {S : Type 0} (n : S → ℕ) (side : Table → Side) (v : Value) → Starts side v → (value_refusal side v ≡ 0 → (side v.table).count ≤ 64) → (k : ℕ)
    → (w : Result (Run S) Refusal) → TriedAt side v k (part_of n w) → TakesAt side v k (is_ok w)
told n side v starts few k (Ok x) tried = takes-yes side v starts few k (part_of n (Ok x)) tried refl
told n side v starts few k (Err x) tried = takes-no side v starts few k (part_of n (Err x)) tried (number_pos x)

pub returns : goal.returns
returns g c =
    let rows-length : length c.args.p.table.rows ≡ 64 = search rules in
    let order-length : length c.args.p.order.numbers ≡ 64 = search rules in
    let starts : Starts (side_of g.S.Side.CASES) (value_of g.S.Side.number c.args.p) = side_started g.S.Side.CASES (value_of g.S.Side.number c.args.p) rows-length order-length in
    let few : value_refusal (side_of g.S.Side.CASES) (value_of g.S.Side.number c.args.p) ≡ 0 → (side_of g.S.Side.CASES c.args.p.table).count ≤ 64 = side_few g.S.Side.CASES (value_of g.S.Side.number c.args.p) starts in
    subst (TakesAt (side_of g.S.Side.CASES) (value_of g.S.Side.number c.args.p) c.args.g) (sym c.is_ok.ensures.value)
    (told g.S.Side.number (side_of g.S.Side.CASES) (value_of g.S.Side.number c.args.p) starts few c.args.g c.try_pick.result c.try_pick.ensures.tried_at)
