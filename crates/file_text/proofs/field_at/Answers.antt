-- `file_text::field_at` meets its contract: the fields from here on, after the digits read so far, are those from the start on. `round` is the
-- start of a turn, seen from the test whether its byte is blank; each return and each way round the loop has its law of `Scanning`.
use native.Mathlib.Omega.{arith}
use Rattle.file_text.proofs.Scanning.{number_at, skip_at, scan-digit-at, scan-bad-at, scan-long-at, last_at, none_at, digits_more}
use Rattle.file_text.proofs.field_at.Goals as goal

pub returns-then-k-gt0 : goal.returns-then-k-gt0
returns-then-k-gt0 c =
    record {
      says = record {
        equation = number_at _ c.loop-i.i _ _ _ c.loop-i.invariant.3 c.loop-i-test.true _ c.is_blank.ensures c.if-is_blank.true c.if-k-gt0.true;
        inside = omega arith;
      };
    }

pub loop-i-preserved-then-is_blank : goal.loop-i-preserved-then-is_blank
loop-i-preserved-then-is_blank c = (
  omega arith,
  c.loop-i.invariant.1,
  c.loop-i.invariant.2,
  skip_at _ c.loop-i.i _ _ _ c.loop-i.invariant.3 c.loop-i-test.true _ c.is_blank.ensures c.if-is_blank.true
      c.if-k-gt0.false c.loop-i.invariant.2,
)

pub returns-then-k-eq-MOST_DIGITS : goal.returns-then-k-eq-MOST_DIGITS
returns-then-k-eq-MOST_DIGITS c =
    record {
      says = scan-long-at _ c.loop-i.i _ _ _ c.loop-i.invariant.3 c.loop-i-test.true _ c.is_blank.ensures c.if-is_blank.false (omega arith);
    }

pub returns-then-d-gt9 : goal.returns-then-d-gt9
returns-then-d-gt9 c =
    record {
      says = scan-bad-at _ c.loop-i.i _ _ _ c.loop-i.invariant.3 c.loop-i-test.true _ c.is_blank.ensures c.if-is_blank.false
          _ c.digit_of-d.ensures c.if-d-gt9.true;
    }

pub loop-i-preserved : goal.loop-i-preserved
loop-i-preserved c = (
  omega arith,
  omega arith,
  digits_more _ _ _ c.loop-i.invariant.2 c.if-d-gt9.false,
  scan-digit-at _ c.loop-i.i _ _ _ c.loop-i.invariant.3 c.loop-i-test.true _ c.is_blank.ensures c.if-is_blank.false
      _ c.digit_of-d.ensures c.if-d-gt9.false (omega arith),
)

pub returns-then-k-gt0-2 : goal.returns-then-k-gt0-2
returns-then-k-gt0-2 c =
    record {
      says = record {
        equation = last_at _ c.loop-i.i _ _ _ c.loop-i.invariant.3 c.loop-i-test.false c.if-k-gt0-2.true;
        inside = omega arith;
      };
    }

pub returns : goal.returns
returns c = record { says = none_at _ c.loop-i.i _ _ _ c.loop-i.invariant.3 c.loop-i-test.false c.if-k-gt0-2.false }
