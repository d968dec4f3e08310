-- `blocks::put_ladders` meets its contract: after each turn the files of the ladders passed are there.
use mathlib.Core.Path.{◌≡◌, refl, subst}
use mathlib.Core.List.{List}
use Prim.Native.Nat.{ℕ, ◌+◌, ◌-◌}
use native.Mathlib.Omega.{arith}
use lib.ListN.{length, take, drop}
use Rattle.runs.proofs.Words.{words_more}
use Rattle.blocks.specs.private.Turning.{shape, Put}
use Rattle.blocks.specs.Filling.{pair_table}
use Rattle.blocks.proofs.OneTurn.{passed_none, passed_more}
use Rattle.blocks.proofs.put_ladders.Goals as goal

pub loop-ladder-init : goal.loop-ladder-init
loop-ladder-init c =
    let z : c.args.many - 0 ≡ c.args.many = omega arith in
    (refl, rw z (passed_none (omega (arith, c.requires.2)) c.requires.0))

pub ladder_at-rows-requires : goal.ladder_at-rows-requires
ladder_at-rows-requires c =
    let p = c.loop-ladder.invariant.1 in (
      omega (arith, p.rest, words_more c.args.gauges (c.args.many - c.loop-ladder._ladder) (omega (arith, c.loop-ladder-test.true))),
      c.requires.1 (omega (arith, c.loop-ladder-test.true)),
    )

pub loop-ladder-preserved : goal.loop-ladder-preserved
loop-ladder-preserved c =
    let long : length c.put_table-place.new.out ≡ length c.loop-ladder.out = c.put_table-place.auto.out in
    let put_one : Put (pair_table (shape c.args.gauges c.args.cases) (take c.args.gauges (drop c.loop-ladder.from c.args.words.now))) c.loop-ladder.out c.loop-ladder.place c.put_table-place.result c.put_table-place.new.out = subst (λ (rows : List ℕ). Put (record { gauges = c.args.gauges; cases = c.args.cases; rows = rows }) c.loop-ladder.out c.loop-ladder.place
    c.put_table-place.result c.put_table-place.new.out) c.ladder_at-rows.ensures
    c.put_table-place.ensures in
    let z : c.args.many - (c.loop-ladder._ladder + 1) ≡ c.args.many - c.loop-ladder._ladder - 1 = omega arith in
    (refl, rw z (passed_more c.loop-ladder.invariant.1 (omega (arith, c.loop-ladder-test.true)) long put_one))
