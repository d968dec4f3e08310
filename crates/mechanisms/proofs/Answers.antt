-- The answers of the fewest mechanisms.
--
-- In order: which is refused, one law for each check; what each return of the public function says (`covers_table`, `covers-budget`, `covers-gauges`,
-- `covers-cases`, `covers-ladders`, `covers-searched`); there is an answer for every table (`covers_some`) and only one (`covers_only`); no two answers of the
-- code read alike (`reading_injective`).
use mathlib.Core.Path.{◌≡◌, refl, sym, ap, ap₂, ◌∙◌}
use mathlib.Core.List.{List}
use Prim.Native.Nat.{ℕ, ◌≤◌, ◌<◌}
use native.Mathlib.Decide.{ℕ_discrete}
use native.Mathlib.Omega.{arith}
use lib.ListN.{length, length-map}
use lib.Seq.{length-take-le}
use borrow.Author.Tests.{lt-ltb, le-ltb, ne_eqb}
use Rattle.basics.proofs.Clash.{clash}
use Rattle.refusals.specs.Answers.{number as number_of}
use Rattle.refusals.specs.declared.Refusal.{Refusal}
use Rattle.refusals.proofs.Answering.{number_pos, number_injective}
use Rattle.table.specs.declared.Table.{Table}
use Rattle.table.specs.Tables.{table_rows, table_refusal}
use Rattle.table.proofs.Legality.{legal_of, legal_cases}
use Rattle.lists.proofs.Listed.{chains_in_order, list_unique}
use Rattle.lists.proofs.Plain.{gauge_list_of}
use Rattle.boards.specs.Boards.{board}
use Rattle.covers.proofs.Covers.{none_smaller}
use Rattle.covers.proofs.Sides.{least_few}
use Rattle.covers.proofs.Fewest.{fewest-ladders, first_least_unique}
use Rattle.mechanisms.specs.Covering.{Reading, covered, spent, refused, fewest, refusal_reading, most_tried, most_side, most_ladders, refusal_of}
use Rattle.mechanisms.specs.Covering.{within_budget, by_rule, Searched, Covers}
use Rattle.mechanisms.specs.declared.Fewest.{Fewest}
use Rattle.mechanisms.specs.declared.Fewest.TheVariants.{Covered, Spent}
use Rattle.std.specs.Prelude.{Result, Ok, Err}
use Rattle.mechanisms.specs.private.Steps.{Lists, Answers}

-- ---- which is refused
refused_table : (t : Table) (b n : ℕ) → 0 < table_refusal t → refusal_of t b n ≡ table_refusal t
unfolding refusal_of
refused_table t b n h = rw (ne_eqb (table_refusal t) 0 (λ e. omega arith))

module _ (t : Table) (b n : ℕ) (passes : table_refusal t ≡ 0) where
  refused_budget : most_tried < b → refusal_of t b n ≡ 18
  unfolding refusal_of
  refused_budget h = rw (passes, lt-ltb most_tried b h)

  module _ (small : b ≤ most_tried) where
    refused-gauges : most_side < t.gauges → refusal_of t b n ≡ 23
    unfolding refusal_of
    refused-gauges h = rw (passes, le-ltb most_tried b small, lt-ltb most_side t.gauges h)

    module _ (low : t.gauges ≤ most_side) where
      refused-cases : most_side < t.cases → refusal_of t b n ≡ 23
      unfolding refusal_of
      refused-cases h = rw (passes, le-ltb most_tried b small, le-ltb most_side t.gauges low, lt-ltb most_side t.cases h)

      module _ (wide : t.cases ≤ most_side) where
        refused-ladders : most_ladders < n → refusal_of t b n ≡ 24
        unfolding refusal_of
        refused-ladders h =
            rw (passes, le-ltb most_tried b small, le-ltb most_side t.gauges low, le-ltb most_side t.cases wide, lt-ltb most_ladders n h)

        none-refused : n ≤ most_ladders → refusal_of t b n ≡ 0
        unfolding refusal_of
        none-refused h =
            rw (passes, le-ltb most_tried b small, le-ltb most_side t.gauges low, le-ltb most_side t.cases wide, le-ltb most_ladders n h)

-- ---- what each return says
module _ (t : Table) (b : ℕ) where
  abbrev xs : List (List ℕ)
  xs = chains_in_order (table_rows t)

  covers_refused : (n : ℕ) (r : Reading) → refusal_of t b (length xs) ≡ n → 0 < n → r ≡ refusal_reading n → Covers t b r
  covers_refused n r e l q = record {
    ladders = xs;
    listed = gauge_list_of t;
    refuses = λ _. q ∙ ap refusal_reading (sym e);
    searches = λ z. absurd (omega (arith, e, z));
  }

  pub covers_table : (x : Refusal) (r : Reading) → r ≡ refusal_reading (number_of x) → number_of x ≡ table_refusal t → Covers t b r
  covers_table x r q e =
      covers_refused (number_of x) r (refused_table t b (length xs) (omega (arith, number_pos x, e)) ∙ sym e) (number_pos x) q

  module _ (passes : table_refusal t ≡ 0) where
    pub covers-budget : (r : Reading) → r ≡ refusal_reading 18 → most_tried < b → Covers t b r
    covers-budget r q h = covers_refused 18 r (refused_budget t b (length xs) passes h) (omega arith) q

    module _ (small : b ≤ most_tried) where
      pub covers-gauges : (r : Reading) → r ≡ refusal_reading 23 → most_side < t.gauges → Covers t b r
      covers-gauges r q h = covers_refused 23 r (refused-gauges t b (length xs) passes small h) (omega arith) q

      module _ (low : t.gauges ≤ most_side) where
        pub covers-cases : (r : Reading) → r ≡ refusal_reading 23 → most_side < t.cases → Covers t b r
        covers-cases r q h = covers_refused 23 r (refused-cases t b (length xs) passes small low h) (omega arith) q

        module _ (wide : t.cases ≤ most_side) (n : ℕ) (boards : List ℕ) (l : Lists t n boards) where
          pub covers-ladders : (r : Reading) → r ≡ refusal_reading 24 → most_ladders < n → Covers t b r
          covers-ladders r q h =
              covers_refused 24 r (refused-ladders t b (length xs) passes small low wide (l.more h xs (gauge_list_of t))) (omega arith) q

          pub covers-searched : (r : Reading) → n ≤ most_ladders → Answers t b r → Covers t b r
          covers-searched r h a = record {
            ladders = xs;
            listed = gauge_list_of t;
            refuses = λ z. absurd (omega (arith, z, none-refused t b (length xs) passes small low wide few));
            searches = λ _. a xs (gauge_list_of t);
          }
            where
              few : length xs ≤ most_ladders
              few = omega (arith, length-map xs board, ap length (l.whole h xs (gauge_list_of t)), length-take-le n boards (omega (arith, l.size)))

-- ---- an answer for every table and every budget, and only one
pub covers_only : (t : Table) (b : ℕ) (r q : Reading) → Covers t b r → Covers t b q → r ≡ q
covers_only t b r q c d = go (ℕ_discrete (refusal_of t b (length c.ladders)) 0)
  where
    same : c.ladders ≡ d.ladders
    same = list_unique c.ladders d.ladders c.listed d.listed

    again : refusal_of t b (length c.ladders) ≡ refusal_of t b (length d.ladders)
    again = ap (λ (l : List (List ℕ)). refusal_of t b (length l)) same

    both : Searched t b c.ladders r → Searched t b d.ladders q → r ≡ q
    both x y =
        let (k, e) = first_least_unique t.cases (table_rows t) x.number y.number x.cover y.cover x.first y.first in
        x.says ∙ ap₂ (λ (n : ℕ) (l : List (List ℕ)). within_budget t b n l (by_rule t c.ladders).tried) k e
        ∙ ap (λ (l : List (List ℕ)). within_budget t b y.number y.cover (by_rule t l).tried) same ∙ sym y.says

    go : Dec (refusal_of t b (length c.ladders) ≡ 0) → r ≡ q
    go (yes z) = both (c.searches z) (d.searches (sym again ∙ z))
    go (no z) = c.refuses (omega arith) ∙ ap refusal_reading again ∙ sym (d.refuses (omega (arith, again)))

pub covers_some : (t : Table) → length t.rows ≡ 64 → (b : ℕ) → (r : Reading) × Covers t b r
covers_some t size b = go (ℕ_discrete (refusal_of t b (length (chains_in_order (table_rows t)))) 0) (ℕ_discrete (table_refusal t) 0)
  where
    refuse : ¬ (refusal_of t b (length (chains_in_order (table_rows t))) ≡ 0) → (r : Reading) × Covers t b r
    refuse z = (
      refusal_reading (refusal_of t b (length (chains_in_order (table_rows t)))),
      record { ladders = chains_in_order (table_rows t); listed = gauge_list_of t; refuses = λ _. refl; searches = λ e. absurd (z e) },
    )

    go : Dec (refusal_of t b (length (chains_in_order (table_rows t))) ≡ 0) → Dec (table_refusal t ≡ 0) → (r : Reading) × Covers t b r
    go (no z) d = refuse z
    go (yes z) (no d) = absurd (d (sym (refused_table t b (length (chains_in_order (table_rows t))) (omega arith)) ∙ z))
    go (yes z) (yes d) =
        let f = fewest-ladders t.cases (table_rows t) (legal_cases t (legal_of t size d)) (chains_in_order (table_rows t)) (gauge_list_of t) in (
          within_budget t b f.0 f.1 (by_rule t (chains_in_order (table_rows t))).tried,
          record {
            ladders = chains_in_order (table_rows t);
            listed = gauge_list_of t;
            refuses = λ l. absurd (omega (arith, z, l));
            searches = λ _. record {
              number = f.0;
              cover = f.1;
              first = f.3;
              none_smaller = none_smaller (table_rows t) f.0 f.3.least;
              few = least_few t (legal_of t size d) f.0 f.3.least;
              rule = f.2;
              says = refl;
            };
          },
        )

-- ---- no two answers read alike
pub reading_injective : (x y : Result Fewest Refusal) → fewest x ≡ fewest y → x ≡ y
reading_injective (Ok (Covered a)) (Ok (Covered b)) e =
    ap (λ (r : Reading). Ok (Covered (record { number = r.number; tried = r.tried; chains = r.cover }))) e
reading_injective (Ok (Covered a)) (Ok (Spent n)) e = let z : covered ≡ spent = ap (λ (r : Reading). r.reply) e in clash cc
reading_injective (Ok (Covered a)) (Err y) e = let z : covered ≡ refused (number_of y) = ap (λ (r : Reading). r.reply) e in clash cc
reading_injective (Ok (Spent m)) (Ok (Covered b)) e = let z : spent ≡ covered = ap (λ (r : Reading). r.reply) e in clash cc
reading_injective (Ok (Spent m)) (Ok (Spent n)) e = ap (λ (r : Reading). Ok (Spent r.tried)) e
reading_injective (Ok (Spent m)) (Err y) e = let z : spent ≡ refused (number_of y) = ap (λ (r : Reading). r.reply) e in clash cc
reading_injective (Err x) (Ok (Covered b)) e = let z : refused (number_of x) ≡ covered = ap (λ (r : Reading). r.reply) e in clash cc
reading_injective (Err x) (Ok (Spent n)) e = let z : refused (number_of x) ≡ spent = ap (λ (r : Reading). r.reply) e in clash cc
reading_injective (Err x) (Err y) e =
    let z : refused (number_of x) ≡ refused (number_of y) = ap (λ (r : Reading). r.reply) e in
    let n : number_of x ≡ number_of y = cc in
    ap Err (number_injective x y n)
