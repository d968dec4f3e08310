-- `samples::sample_table` meets its contract: each answer is the definition's by the tests that led to it.
use mathlib.Core.Path.{◌≡◌}
use Rattle.refusals.specs.declared.Refusal.TheVariants.{TableShape, SampleInput}
use Rattle.refusals.proofs.Answering.{answer-refused, answer_given}
use Rattle.samples.specs.Samples.{shape_refusal}
use Rattle.samples.proofs.Places.{sample_claims}
use Rattle.samples.proofs.Refusing.{bad_gauges, bad-cases, good-shape, bad_start, bad-density, good-input, refused_shape, refused_input, not_refused}
use Rattle.samples.proofs.sample_table.Goals as goal

pub returns-then-not-in_range : goal.returns-then-not-in_range
returns-then-not-in_range c =
    record {
      result_value =
          answer-refused TableShape _ _ _
          (refused_shape _ _ _ _ (bad_gauges _ _ _ c.in_range.ensures c.if-not-in_range.true));
      claims = sample_claims _ _ _ _;
    }

pub returns-then-not-in_range-2 : goal.returns-then-not-in_range-2
returns-then-not-in_range-2 c =
    record {
      result_value =
          answer-refused TableShape _ _ _
          (refused_shape _ _ _ _
          (bad-cases _ _ _ c.in_range.ensures c.if-not-in_range.false _
          c.in_range-2.ensures c.if-not-in_range-2.true));
      claims = sample_claims _ _ _ _;
    }

pub returns-then-start-eq0 : goal.returns-then-start-eq0
returns-then-start-eq0 c =
    let shape : shape_refusal c.args.gauges c.args.cases ≡ 0 = good-shape _ _ _ c.in_range.ensures c.if-not-in_range.false _
    c.in_range-2.ensures c.if-not-in_range-2.false in
    record {
      result_value = answer-refused SampleInput _ _ _ (refused_input _ _ _ _ shape (bad_start _ _ c.if-start-eq0.true));
      claims = sample_claims _ _ _ _;
    }

pub returns-then-density-gt-MOST_DENSITY : goal.returns-then-density-gt-MOST_DENSITY
returns-then-density-gt-MOST_DENSITY c =
    let shape : shape_refusal c.args.gauges c.args.cases ≡ 0 = good-shape _ _ _ c.in_range.ensures c.if-not-in_range.false _
    c.in_range-2.ensures c.if-not-in_range-2.false in
    record {
      result_value =
          answer-refused SampleInput _ _ _
          (refused_input _ _ _ _ shape (bad-density _ _ c.if-start-eq0.false c.if-density-gt-MOST_DENSITY.true));
      claims = sample_claims _ _ _ _;
    }

pub returns : goal.returns
returns c =
    let shape : shape_refusal c.args.gauges c.args.cases ≡ 0 = good-shape _ _ _ c.in_range.ensures c.if-not-in_range.false _
    c.in_range-2.ensures c.if-not-in_range-2.false in
    record {
      result_value = rw c.sample_rows-rows.ensures
          (answer_given _ _ _ (not_refused _ _ _ _ shape (good-input _ _ c.if-start-eq0.false c.if-density-gt-MOST_DENSITY.false)));
      claims = sample_claims _ _ _ _;
    }
