-- `replay::replay` meets its contract: the picks passed are as `Going` says, one that cannot have been made fails its
-- test, and at the end no unpicked gauge is against them.
use Rattle.std.proofs.Common.{◌≡◌, refl, sym, arith, rules, None}
use Rattle.replay.proofs.Going.{full_is, low_none, low_more, going_none, going_more, bad-place, bad-empty, bad-judge}
use Rattle.replay.proofs.Going.{going-made, going-against, replays_no, replays_yes}
use Rattle.replay.proofs.replay.Goals as goal

pub loop-i-init : goal.loop-i-init
loop-i-init c = (low_none _ _ c.lowest-unpicked.ensures, going_none _ _ _ _ _ _ c.lowest-unpicked.ensures (sym full_is) (sym full_is))

pub returns-then-not-has : goal.returns-then-not-has
returns-then-not-has c =
    let l = c.loop-i in
    replays_no _ _ _ _ (λ p h.
    bad-place _ _ _ _ _ _ _ l.i l.invariant.1 _ _ c.loop-i-test.true c.from-number.ensures p h _ refl _ c.has.ensures
    c.if-not-has.true)

pub returns-then-own-eq0 : goal.returns-then-own-eq0
returns-then-own-eq0 c =
    let l = c.loop-i in
    replays_no _ _ _ _ (λ p h.
    bad-empty _ _ _ _ _ _ _ l.i l.invariant.1 _ _ c.loop-i-test.true c.from-number.ensures p h _ refl _ refl c.if-own-eq0.true)

pub returns-in_err-before : goal.returns-in_err-before
returns-in_err-before c =
    let l = c.loop-i in
    let e : c.from_residual.result ≡ None = search rules in
    rw e
    (replays_no _ _ _ _ (λ p h.
    bad-judge _ _ _ _ _ _ _ l.i l.invariant.1 _ _ c.loop-i-test.true c.from-number.ensures p h _ refl _ refl _ c.judge.ensures c.in_err-before.was))

pub loop-i-preserved : goal.loop-i-preserved
loop-i-preserved c =
    let l = c.loop-i in (
      low_more _ _ _ l.invariant.0 c.without-unpicked.ensures,
      going_more _ _ _ _ _ _ _ l.i l.invariant.1 _ _ _ c.from-number.ensures c.if-number-eq0.false refl _ c.has.ensures
          c.if-not-has.false refl
          c.if-own-eq0.false _ c.judge.ensures _ c.in_ok-before.was _ c.without-unpicked.ensures,
    )

pub returns-then-not-none_against : goal.returns-then-not-none_against
returns-then-not-none_against c =
    let all-passed : c.loop-i.i ≡ c.args.count = omega arith in
    let l = c.loop-i in
    replays_no _ _ _ _ (λ p h. going-against _ _ _ _ _ _ _ l.i l.invariant.1 _ _ all-passed c.none_against.ensures
    c.if-not-none_against.true p h)

pub returns : goal.returns
returns c =
    let all-passed : c.loop-i.i ≡ c.args.count = omega arith in
    let l = c.loop-i in
    replays_yes _ _ _ _ _ (going-made _ _ _ _ _ _ _ l.i l.invariant.1 _ _ _ all-passed c.none_against.ensures
    c.if-not-none_against.false refl refl)
