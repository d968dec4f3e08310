-- What follows for equal tests: equality is an equivalence (`equal_refl`, `equal_sym`, `equal_trans`); equal tests have the same table at every cutoff
-- (`equal_tables`); of pattern tests shape and entries decide (`pattern_equal`), and none equals an integer test (`kinds_unequal`); a listed zero
-- differs from an absent entry (`entry_unequal`), though no cutoff tells the two apart (`zeros_same_tables`).
use mathlib.Core.Path.{◌≡◌, refl, sym, ap, ◌∙◌}
use mathlib.Core.Logic.{◌↔◌}
use Prim.Native.Nat.{ℕ, ◌≤◌}
use lib.IntN.{pos}
use Rattle.basics.proofs.Clash.{clash}
use Rattle.table.specs.Pairs.{Has}
use Rattle.table.proofs.Places.{same_pairs_rows}
use Rattle.recorded.specs.Tests.{reading_of, LegalTest, table_of}
use Rattle.recorded.specs.Equality.{EqualTests}
use Rattle.recorded.specs.declared.Kind.TheVariants.{Pattern, Integer}
use Rattle.recorded.specs.declared.Test.{Test}
use Rattle.recorded.proofs.Legality.{pattern-zero}
use Rattle.recorded.proofs.Reaching.{table_legal, zero_no_pair}
use Rattle.recorded.proofs.Equal.{same_equal, equal-same}

-- ---- an equivalence
pub equal_refl : (a : Test) → EqualTests a a
equal_refl a = same_equal a a refl

pub equal_sym : (a b : Test) → EqualTests a b → EqualTests b a
equal_sym a b e = record {
  kind = sym e.kind;
  gauges = sym e.gauges;
  cases = sym e.cases;
  entries = λ g c. ((e.entries g c).1, (e.entries g c).0);
  readings = λ g c h. sym (e.readings g c ((e.entries g c).1 h));
}

pub equal_trans : (a b c : Test) → EqualTests a b → EqualTests b c → EqualTests a c
equal_trans a b c e f = record {
  kind = e.kind ∙ f.kind;
  gauges = e.gauges ∙ f.gauges;
  cases = e.cases ∙ f.cases;
  entries = λ g d. (λ h. (f.entries g d).0 ((e.entries g d).0 h), λ h. (e.entries g d).1 ((f.entries g d).1 h));
  readings = λ g d h. e.readings g d h ∙ f.readings g d ((e.entries g d).0 h);
}

-- ---- "no cutoff enters": the tables are the same at every one
pub equal_tables : (a b : Test) → LegalTest a → LegalTest b → EqualTests a b → (cutoff : ℕ) → table_of a cutoff ≡ table_of b cutoff
equal_tables a b la lb e cutoff = ap (λ (t : Test). table_of t cutoff) (equal-same a b la lb e)

-- ---- kinds
pub pattern_equal : (a b : Test) → LegalTest a → LegalTest b → a.kind ≡ Pattern → b.kind ≡ Pattern → a.gauges ≡ b.gauges → a.cases ≡ b.cases
    → ((g c : ℕ) → Has a.entries g c ↔ Has b.entries g c) → EqualTests a b
pattern_equal a b la lb ka kb g c e = record {
  kind = ka ∙ sym kb;
  gauges = g;
  cases = c;
  entries = e;
  readings = λ i j h. pattern-zero a la ka _ ∙ sym (pattern-zero b lb kb _);
}

pub kinds_unequal : (a b : Test) → a.kind ≡ Pattern → b.kind ≡ Integer → ¬ EqualTests a b
kinds_unequal a b ka kb e = let k : a.kind ≡ b.kind = e.kind in clash cc

-- ---- "a listed zero differing from an absent entry": an entry of one that the other lacks, whatever its reading
pub entry_unequal : (a b : Test) (g c : ℕ) → Has a.entries g c → ¬ Has b.entries g c → ¬ EqualTests a b
entry_unequal a b g c h n e = n ((e.entries g c).0 h)

-- tests whose readings are all zero have the same tables, whatever their entries
pub zeros_same_tables : (a b : Test) → LegalTest a → LegalTest b → a.kind ≡ Integer → b.kind ≡ Integer → a.gauges ≡ b.gauges → a.cases ≡ b.cases
    → ((g c : ℕ) → reading_of a g c ≡ pos 0) → ((g c : ℕ) → reading_of b g c ≡ pos 0) → (cutoff : ℕ) → 1 ≤ cutoff → table_of a cutoff ≡ table_of b cutoff
zeros_same_tables a b la lb ka kb g c za zb cutoff h =
    let r : (table_of a cutoff).rows ≡ (table_of b cutoff).rows =
    same_pairs_rows (table_of a cutoff).rows (table_of b cutoff).rows
    ((table_legal a cutoff la.entries_legal).rows_length ∙ sym (table_legal b cutoff lb.entries_legal).rows_length)
    (λ i j. (λ p. absurd (zero_no_pair a la cutoff i j h ka (za i j) p), λ p. absurd (zero_no_pair b lb cutoff i j h kb (zb i j) p))) in
    λ i. record { gauges = g i; cases = c i; rows = r i }
