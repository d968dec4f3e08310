-- `blocks::list_some` meets its contract: what the batch gives, and the files of its ladders, are a turn
-- (OneTurn.antt), and a refusal is one.
use mathlib.Core.Path.{◌≡◌, refl, sym, ◌∙◌, subst}
use mathlib.Core.List.{List}
use Prim.Native.Nat.{ℕ, ◌-◌, ◌≤◌}
use native.Mathlib.Omega.{arith}
use lib.ListN.{length, take, drop}
use lib.Seq.{length-take-le}
use borrow.Author.Rules.{rules}
use Rattle.std.proofs.Common.{Ok, Err}
use Rattle.runs.specs.Paused.{Value, gauge_value}
use Rattle.runs.specs.Batches.{batch_of, closing}
use Rattle.table.specs.declared.Gauge.{Gauge}
use Rattle.runs.proofs.Demands.{Starts}
use Rattle.runs.proofs.Starting.{gauge_started}
use Rattle.lists.specs.Lists.{gauge_side}
use Rattle.blocks.specs.declared.Turn.{Turn}
use Rattle.blocks.specs.private.Turning.{Turned, stopped, ended}
use Rattle.blocks.proofs.OneTurn.{ladders_there, turned_batch, turned_refused}
use Rattle.blocks.proofs.list_some.Goals as goal

said : (v : Value) (before : List ℕ) (at : ℕ) (now : List ℕ) (r x : Turn) → r ≡ x
    → Turned v before at (gauge_value x.run) x.next (stopped (closing x.close)) (ended (closing x.close)) now → Turned v before at (gauge_value r.run) r.next (stopped (closing r.close)) (ended (closing r.close)) now
said v before at now r x e h =
    subst (λ (y : Turn). Turned v before at (gauge_value y.run) y.next (stopped (closing y.close)) (ended (closing y.close)) now) (sym e) h

pub put_ladders-place-requires : goal.put_ladders-place-requires
put_ladders-place-requires c =
    let rows-length : length c.args.run.table.rows ≡ 64 = search rules in
    let order-length : length c.args.run.order.numbers ≡ 64 = search rules in
    let started : Starts gauge_side (gauge_value c.args.run) = gauge_started c.args.run.table rows-length c.args.run.order.numbers order-length in
    let long : length (take (c.lend-many.result - 0) (drop 0 c.args.words.now)) ≡ c.lend-many.result =
    let m : ℕ = c.lend-many.result in
    let e : m - 0 ≡ m = omega arith in
    length-take-le (m - 0) c.args.words.now (omega (arith, c.lend-many.ensures.few, c.requires.0)) ∙ e in
    let low : c.args.at ≤ length c.args.out.now = omega (arith, c.requires.1) in
    let there = ladders_there (gauge_value c.args.run) rows-length started c.args.out.now c.args.at c.requires.1 _ c.lend-many.ensures
    (take (c.lend-many.result - 0) (drop 0 c.args.words.now)) long
    (batch_of (λ x. x.0) (Ok c.in-Ok.batch)) _ (rw c.in-Ok.is at c.list.ensures.batched) _ in
    (low, there.0, there.1)

pub returns-in-Ok : goal.returns-in-Ok
returns-in-Ok c =
    let rows-length : length c.args.run.table.rows ≡ 64 = search rules in
    let order-length : length c.args.run.order.numbers ≡ 64 = search rules in
    let started : Starts gauge_side (gauge_value c.args.run) = gauge_started c.args.run.table rows-length c.args.run.order.numbers order-length in
    let long : length (take (c.lend-many.result - 0) (drop 0 c.args.words.now)) ≡ c.lend-many.result =
    let m : ℕ = c.lend-many.result in
    let e : m - 0 ≡ m = omega arith in
    length-take-le (m - 0) c.args.words.now (omega (arith, c.lend-many.ensures.few, c.requires.0)) ∙ e in
    said _ _ _ _ _ _ c.turned.ensures
    (turned_batch (gauge_value c.args.run) rows-length started c.args.out.now c.args.at c.requires.1 _ c.lend-many.ensures
    (take (c.lend-many.result - 0) (drop 0 c.args.words.now)) long
    (batch_of (λ x. x.0) (Ok c.in-Ok.batch)) _ (rw c.in-Ok.is at c.list.ensures.batched) _ _ _ c.put_ladders-place.ensures _ refl _ _ refl refl)

pub returns-in-Err : goal.returns-in-Err
returns-in-Err c =
    let rows-length : length c.args.run.table.rows ≡ 64 = search rules in
    let order-length : length c.args.run.order.numbers ≡ 64 = search rules in
    let started : Starts gauge_side (gauge_value c.args.run) = gauge_started c.args.run.table rows-length c.args.run.order.numbers order-length in
    let long : length (take (c.lend-many.result - 0) (drop 0 c.args.words.now)) ≡ c.lend-many.result =
    let m : ℕ = c.lend-many.result in
    let e : m - 0 ≡ m = omega arith in
    length-take-le (m - 0) c.args.words.now (omega (arith, c.lend-many.ensures.few, c.requires.0)) ∙ e in
    said _ _ _ _ _ _ c.turned-in-Err.ensures
    (turned_refused (gauge_value c.args.run) rows-length started c.args.out.now c.args.at c.requires.1 _ c.lend-many.ensures
    (take (c.lend-many.result - 0) (drop 0 c.args.words.now)) long
    (batch_of {S = Gauge} (λ x. x.0) (Err c.in-Err.field-0)) _ (rw c.in-Err.is at c.list.ensures.batched) _ refl _ _ (omega (arith, c.requires.1)) _ _ _)
