-- What the entries on chains and pairs give is there for every input, and is one thing only.
--
-- In order: the number of a check is 0 or that of a refusal (`Known`); judging (`judges_unique`, `judges_chain`, `judges_ladder`), with slices no longer
-- than their layouts (`judges_served`); growing (`grows_unique`, `grows_exists`, `grows_served`), and what it left is a maximal chain (`grows-chain`,
-- `grows-ladder`); conflicts (`rivals_unique`, `rivals_exist`, `rivals_served`); deciding pairs (`decides_unique`, `decides_exists`, `decides_served`);
-- the claims of the entries on pairs (`claims_used`).
--
-- Elsewhere: what holds of every entry, words/proofs/Answers; one answer of the library's own functions, proofs/ of the crates judge, extend, essentials.
use Rattle.std.specs.Prelude.{Result, Ok, Err}
use mathlib.Core.Path.{◌≡◌, refl, sym, ap, ap₂, ◌∙◌, subst}
use mathlib.Core.Bool.{Bool, true, false, ◌&&◌, cond}
use mathlib.Core.Logic.{◌⊎◌, inl, inr, ◌↔◌}
use mathlib.Core.List.{List, [], ◌∷◌}
use Prim.Native.Nat.{ℕ, ◌-◌, ◌≤◌, ◌<◌}
use native.Mathlib.Decide.{ℕ_discrete}
use native.Mathlib.Omega.{arith}
use lib.Dec.{T, eqb}
use lib.ListN.{length, take, replicate}
use lib.Seq.{take_at}
use Rattle.refusals.specs.declared.Refusal.{Refusal}
use Rattle.refusals.specs.declared.Refusal.TheVariants.{TableShape, TableRows, ChainCount, ChainPairs, PairAbsent}
use Rattle.refusals.specs.Answers.{number, Answer, refused}
use Rattle.table.specs.declared.Table.{Table}
use Rattle.table.specs.declared.Chain.{Chain}
use Rattle.table.specs.Pairs.{Within}
use Rattle.table.specs.Chains.{IsChain, IsMaximal}
use Rattle.table.specs.Tables.{Legal, table_rows, chain_rows, rows_fit, rows_within, in_range, table_refusal, chain_refusal, padded, no_rows}
use Rattle.table.proofs.Legality.{ChainFacts, chain_facts, chain_within, length_rows, legal_cases}
use Rattle.table.proofs.Padding.{pad_length}
use Rattle.judge.specs.Judging.{judgement, Judged}
use Rattle.judge.proofs.NestedTest.{chain_dec}
use Rattle.judge.proofs.Verdicts.{judged_refused, judged_yes, judged_no, judged_dec, judged_unique, maximal_dec}
use Rattle.lists.specs.Arrangements.{IsArrangement}
use Rattle.lists.specs.Lists.{gauge_side, list_key}
use Rattle.lists.specs.Growing.{FirstContaining}
use Rattle.lists.specs.OnTable.{chain_of}
use Rattle.lists.specs.private.Arranging.{arrange, unarrange}
use Rattle.lists.proofs.Growing.{grow}
use Rattle.lists.proofs.PreferredGrowing.{grown_placed}
use Rattle.preference.specs.Preferences.{order_of}
use Rattle.preference.proofs.Holding.{preference_of}
use Rattle.preference.proofs.Placing.{passes_both}
use Rattle.extend.specs.Extending.{refused_by, grow_refusal, Grown, Extends}
use Rattle.extend.proofs.Answers.{grow_passes, extends_unique}
use Rattle.conflicts.specs.Conflicts.{Essential}
use Rattle.conflicts.specs.Covers.{ConflictClaims}
use Rattle.conflicts.specs.Tests.{has_pair, is_essential}
use Rattle.conflicts.proofs.Testing.{essential_test}
use Rattle.essentials.specs.Answers.{pair_refusal, GivesConflicts}
use Rattle.essentials.specs.private.Unions.{conflict_rows}
use Rattle.essentials.proofs.Answers.{pair_facts, gives, gives_refused, conflicts_unique}
use Rattle.words.specs.Layouts.{table_at, chain_at, numbers_at, chain_words}
use Rattle.words.specs.Serving.{words_after}
use Rattle.words.proofs.Serving.{long_two, long_more}
use Rattle.words.proofs.Back.{rows_size, numbers_size, chain_left}
use Rattle.words.proofs.Answers.{short_dec, or_dec, gives_is, gives_exists, gives_unique}
use Rattle.c_chains.specs.Serving.{yes_no, Judges, Grows, Conflicts, Decides, ClaimsConflicts}

-- ---- the number of a check
abbrev Known : ℕ → Type 0
Known n = (n ≡ 0) ⊎ ((x : Refusal) × (number x ≡ n))

known_if : (b : Bool) (m n : ℕ) → Known m → Known n → Known (cond b m n)
known_if true m n h k = h
known_if false m n h k = k

table_known : (t : Table) → Known (table_refusal t)
unfolding table_refusal
table_known t =
    known_if (in_range 64 t.gauges && in_range 64 t.cases) (cond (rows_fit t.gauges t.cases t.rows) 0 11) 10
    (known_if (rows_fit t.gauges t.cases t.rows) 0 11 (inl refl) (inr (TableRows, refl))) (inr (TableShape, refl))

chain_known : (t : Table) (s : Chain) → Known (chain_refusal t s)
unfolding chain_refusal
chain_known t s =
    known_if (eqb (table_refusal t) 0) (cond (eqb s.gauges t.gauges) (cond (rows_within t.rows s.rows) 0 13) 12) (table_refusal t)
    (known_if (eqb s.gauges t.gauges) (cond (rows_within t.rows s.rows) 0 13) 12
    (known_if (rows_within t.rows s.rows) 0 13 (inl refl) (inr (ChainPairs, refl))) (inr (ChainCount, refl)))
    (table_known t)

pair_known : (t : Table) (g c : ℕ) → Known (pair_refusal t g c)
unfolding pair_refusal
pair_known t g c =
    known_if (eqb (table_refusal t) 0) (cond (has_pair (table_rows t) g c) 0 19) (table_refusal t)
    (known_if (has_pair (table_rows t) g c) 0 19 (inl refl) (inr (PairAbsent, refl))) (table_known t)

-- ---- judging
judged_some : (n : ℕ) (P : Type 0) → Known n → (n ≡ 0 → (j : Result Bool Refusal) × Judged n P j) → (j : Result Bool Refusal) × Judged n P j
judged_some n P (inl z) f = f z
judged_some n P (inr (x, e)) f = (Err x, judged_refused x n e)

module _ (t : Table) (s : Chain) (n : length t.rows ≡ 64) (m : length s.rows ≡ 64) where
  chain_judged : (j : Result Bool Refusal) × Judged (chain_refusal t s) (IsChain (chain_rows s)) j
  chain_judged = judged_some (chain_refusal t s) (IsChain (chain_rows s)) (chain_known t s) (λ e. judged_dec (chain_refusal t s) e (chain_dec (chain_rows s)))

  ladder_judged : (j : Result Bool Refusal) × Judged (chain_refusal t s) (IsMaximal (table_rows t) (chain_rows s)) j
  ladder_judged =
      judged_some (chain_refusal t s) (IsMaximal (table_rows t) (chain_rows s)) (chain_known t s) (λ e.
      judged_dec (chain_refusal t s) e (maximal_dec t s e n m))

module _ (t s out : List ℕ) where
  judge_dec : Dec ((length t < 66) ⊎ ((length s < 65) ⊎ (length out < 1)))
  judge_dec = or_dec (short_dec t 66) (or_dec (short_dec s 65) (short_dec out 1))

  pub judges_unique : (P : Table → Chain → Type 0) (a b : List ℕ) (r q : ℕ) → Judges P t s out a r → Judges P t s out b q → (a ≡ b) × (r ≡ q)
  judges_unique P = gives_unique out judge_dec (judged_unique (chain_refusal (table_at 0 t) (chain_at 0 s)) (P (table_at 0 t) (chain_at 0 s)))

  -- 66, 65 and 1 words are enough: it is the number and the word of the library's answer
  pub judges_served : (P : Table → Chain → Type 0) → 66 ≤ length t → 65 ≤ length s → 1 ≤ length out → (j : Result Bool Refusal)
      → Judged (chain_refusal (table_at 0 t) (chain_at 0 s)) (P (table_at 0 t) (chain_at 0 s)) j → (out' : List ℕ) (r : ℕ) → Judges P t s out out' r
      → (r ≡ (judgement j).refusal) × (out' ≡ words_after (judgement j).refusal (yes_no (judgement j).value ∷ []) out)
  judges_served P lt ls lo =
      gives_is out (judged_unique (chain_refusal (table_at 0 t) (chain_at 0 s)) (P (table_at 0 t) (chain_at 0 s))) (long_more lt (long_two ls lo))

  pub judges_chain : (out' : List ℕ) × (r : ℕ) × Judges (λ (t : Table) (s : Chain). IsChain (chain_rows s)) t s out out' r
  judges_chain = let (j, p) = chain_judged (table_at 0 t) (chain_at 0 s) (rows_size 2 t) (rows_size 1 s) in gives_exists out judge_dec j p

  pub judges_ladder : (out' : List ℕ) × (r : ℕ) × Judges (λ (t : Table) (s : Chain). IsMaximal (table_rows t) (chain_rows s)) t s out out' r
  judges_ladder = let (j, p) = ladder_judged (table_at 0 t) (chain_at 0 s) (rows_size 2 t) (rows_size 1 s) in gives_exists out judge_dec j p

-- ---- growing
-- the first maximal chain that contains a chain of the table, under a preference
first_some : (t : Table) (k : List ℕ) (s : Chain) → length t.rows ≡ 64 → length k ≡ 64 → length s.rows ≡ 64 → grow_refusal t k s ≡ 0
    → IsChain (chain_rows s) → (x : List ℕ) × FirstContaining (table_rows t) (list_key (gauge_side t) (order_of t.gauges k)) (chain_rows s) x
first_some t k s n l m z c = (
  unarrange o (chain_of (arrange o (table_rows t)) (grow (arrange o (table_rows t)) (arrange o (chain_rows s)))),
  grown_placed t.gauges o arranged (table_rows t) (chain_rows s) (length_rows t facts.legal) (chain_within t s facts m) c,
)
  where
    o : List ℕ
    o = order_of t.gauges k

    facts : ChainFacts t s
    facts = chain_facts t s n (grow_passes t k s z).1

    arranged : IsArrangement t.gauges (order_of t.gauges k)
    arranged = (preference_of t.gauges k facts.legal.gauges_high l (rw (passes_both t t.gauges k (grow_passes t k s z).0).1 tt)).arranged

extends_some : (t : Table) (k : List ℕ) (s : Chain) → length t.rows ≡ 64 → length k ≡ 64 → length s.rows ≡ 64 → (a : Answer Chain) × Extends t k s a
extends_some t k s n l m = go (ℕ_discrete (grow_refusal t k s) 0) (chain_dec (chain_rows s))
  where
    go : Dec (grow_refusal t k s ≡ 0) → Dec (IsChain (chain_rows s)) → (a : Answer Chain) × Extends t k s a
    go (no z) d = (refused_by (grow_refusal t k s), record { checked = λ _. refl; no_chain = λ y. absurd (z y); grown = λ y. absurd (z y) })
    go (yes z) (no c) = (refused_by 14, record { checked = λ y. absurd (y z); no_chain = λ _ _. refl; grown = λ _ h. absurd (c h) })
    go (yes z) (yes c) =
        let (x, f) = first_some t k s n l m z c in (
          record { refusal = 0; value = record { gauges = t.gauges; rows = padded x } },
          record {
            checked = λ y. absurd (y z);
            no_chain = λ _ h. absurd (h c);
            grown = λ _ _. record { accepted = refl; count = refl; rows = record { chain = x; first = f; held = refl } };
          },
        )

-- an answer that is no refusal: the chain was one of the table, and the rows are those of the first maximal chain that contains it
module _ (t : Table) (k : List ℕ) (s : Chain) (n : length t.rows ≡ 64) (a : Answer Chain) (x : Extends t k s a) (e : a.refusal ≡ 0) where
  grown_answer : (grow_refusal t k s ≡ 0) × Grown t (order_of t.gauges k) s a
  grown_answer = go (ℕ_discrete (grow_refusal t k s) 0) (chain_dec (chain_rows s))
    where
      go : Dec (grow_refusal t k s ≡ 0) → Dec (IsChain (chain_rows s)) → (grow_refusal t k s ≡ 0) × Grown t (order_of t.gauges k) s a
      go (no z) d = absurd (z (sym (ap (λ (y : Answer Chain). y.refusal) (x.checked z)) ∙ e))
      go (yes z) (yes c) = (z, x.grown z c)
      go (yes z) (no c) = absurd (omega (arith, e, ap (λ (y : Answer Chain). y.refusal) (x.no_chain z c)))

  grown_legal : Legal t
  grown_legal = (chain_facts t s n (grow_passes t k s grown_answer.0).1).legal

  grown_rows : length grown_answer.1.rows.chain ≡ t.gauges
  grown_rows = grown_answer.1.rows.first.maximal.within.size ∙ length_rows t grown_legal

  grown_size : length a.value.rows ≡ 64
  grown_size = ap length grown_answer.1.rows.held ∙ pad_length grown_answer.1.rows.chain (omega (arith, grown_rows, grown_legal.gauges_high))

  grown_ladder : IsMaximal (table_rows t) (chain_rows a.value) × Within (chain_rows a.value) (chain_rows s)
  grown_ladder = (
    subst (IsMaximal (table_rows t)) (sym same) grown_answer.1.rows.first.maximal,
    subst (λ (y : List ℕ). Within y (chain_rows s)) (sym same) grown_answer.1.rows.first.contains,
  )
    where
      same : chain_rows a.value ≡ grown_answer.1.rows.chain
      same =
          ap₂ take grown_answer.1.count grown_answer.1.rows.held
          ∙ take_at grown_answer.1.rows.chain (replicate (64 - length grown_answer.1.rows.chain) 0) t.gauges grown_rows

module _ (t o s out : List ℕ) where
  grow_dec : Dec ((length t < 66) ⊎ ((length o < 64) ⊎ ((length s < 65) ⊎ (length out < 65))))
  grow_dec = or_dec (short_dec t 66) (or_dec (short_dec o 64) (or_dec (short_dec s 65) (short_dec out 65)))

  pub grows_unique : (a b : List ℕ) (r q : ℕ) → Grows t o s out a r → Grows t o s out b q → (a ≡ b) × (r ≡ q)
  grows_unique = gives_unique out grow_dec (extends_unique (table_at 0 t) (numbers_at 0 o) (chain_at 0 s))

  pub grows_exists : (out' : List ℕ) × (r : ℕ) × Grows t o s out out' r
  grows_exists =
      let (a, p) = extends_some (table_at 0 t) (numbers_at 0 o) (chain_at 0 s) (rows_size 2 t) (numbers_size 0 o) (rows_size 1 s) in
      gives_exists out grow_dec a p

  pub grows_served : 66 ≤ length t → 64 ≤ length o → 65 ≤ length s → 65 ≤ length out → (a : Answer Chain)
      → Extends (table_at 0 t) (numbers_at 0 o) (chain_at 0 s) a → (out' : List ℕ) (r : ℕ) → Grows t o s out out' r
      → (r ≡ a.refusal) × (out' ≡ words_after a.refusal (chain_words a.value) out)
  grows_served lt lo ls lw =
      gives_is out (extends_unique (table_at 0 t) (numbers_at 0 o) (chain_at 0 s)) (long_more lt (long_more lo (long_two ls lw)))

  -- what growing left reads as the chain that the library gives, a maximal one that contains the chain it grew from
  module _ (out' : List ℕ) (r : ℕ) (z : r ≡ 0) (g : Grows t o s out out' r) where
    pub grows-chain : Extends (table_at 0 t) (numbers_at 0 o) (chain_at 0 s) (record { refusal = 0; value = chain_at 0 out' })
    grows-chain =
        chain_left out out' r z g (λ n. let k : ¬ (length out < 65) = λ l. n (inr (inr (inr l))) in omega arith)
        (λ a x e. grown_size (table_at 0 t) (numbers_at 0 o) (chain_at 0 s) (rows_size 2 t) a x e)

    pub grows-ladder : IsMaximal (table_rows (table_at 0 t)) (chain_rows (chain_at 0 out')) × Within (chain_rows (chain_at 0 out')) (chain_rows (chain_at 0 s))
    grows-ladder = grown_ladder (table_at 0 t) (numbers_at 0 o) (chain_at 0 s) (rows_size 2 t) (record { refusal = 0; value = chain_at 0 out' }) grows-chain refl

-- ---- conflicts
conflicts_made : (t : Table) (g c : ℕ) → length t.rows ≡ 64 → (a : Answer (List ℕ)) × GivesConflicts t g c a
conflicts_made t g c n = go (pair_known t g c)
  where
    go : Known (pair_refusal t g c) → (a : Answer (List ℕ)) × GivesConflicts t g c a
    go (inl z) = let rows : List ℕ = conflict_rows t.rows (g - 1) (c - 1) in
        (record { refusal = 0; value = rows }, gives t g c n (pair_facts t g c n z) rows refl)
    go (inr (x, e)) = (refused x no_rows, gives_refused _ _ x (refused x no_rows) e refl)

module _ (t : List ℕ) (g c : ℕ) (out : List ℕ) where
  conflict_dec : Dec ((length t < 66) ⊎ (length out < 64))
  conflict_dec = or_dec (short_dec t 66) (short_dec out 64)

  pub rivals_unique : (a b : List ℕ) (r q : ℕ) → Conflicts t g c out a r → Conflicts t g c out b q → (a ≡ b) × (r ≡ q)
  rivals_unique = gives_unique out conflict_dec (conflicts_unique (table_at 0 t) g c)

  pub rivals_exist : (out' : List ℕ) × (r : ℕ) × Conflicts t g c out out' r
  rivals_exist = let (a, p) = conflicts_made (table_at 0 t) g c (rows_size 2 t) in gives_exists out conflict_dec a p

  pub rivals_served : 66 ≤ length t → 64 ≤ length out → (a : Answer (List ℕ)) → GivesConflicts (table_at 0 t) g c a → (out' : List ℕ) (r : ℕ)
      → Conflicts t g c out out' r → (r ≡ a.refusal) × (out' ≡ words_after a.refusal a.value out)
  rivals_served lt lo = gives_is out (conflicts_unique (table_at 0 t) g c) (long_two lt lo)

-- ---- deciding pairs
essential_judged : (t : Table) (g c : ℕ) → length t.rows ≡ 64 → (j : Result Bool Refusal) × Judged (pair_refusal t g c) (Essential (table_rows t) g c) j
essential_judged t g c n = judged_some (pair_refusal t g c) (Essential (table_rows t) g c) (pair_known t g c) (λ e.
    go e (essential_test t.cases (table_rows t) (legal_cases t (pair_facts t g c n e).legal) g c) (is_essential t.cases (table_rows t) g c) refl)
  where
    go : pair_refusal t g c ≡ 0 → T (is_essential t.cases (table_rows t) g c) ↔ Essential (table_rows t) g c → (b : Bool)
        → is_essential t.cases (table_rows t) g c ≡ b → (j : Result Bool Refusal) × Judged (pair_refusal t g c) (Essential (table_rows t) g c) j
    go e test true d = (Ok true, judged_yes (pair_refusal t g c) e (test.0 (rw d tt)))
    go e test false d = (Ok false, judged_no (pair_refusal t g c) e (λ h. subst T d (test.1 h)))

module _ (t : List ℕ) (g c : ℕ) (out : List ℕ) where
  decide_dec : Dec ((length t < 66) ⊎ (length out < 1))
  decide_dec = or_dec (short_dec t 66) (short_dec out 1)

  pub decides_unique : (a b : List ℕ) (r q : ℕ) → Decides t g c out a r → Decides t g c out b q → (a ≡ b) × (r ≡ q)
  decides_unique = gives_unique out decide_dec (judged_unique (pair_refusal (table_at 0 t) g c) (Essential (table_rows (table_at 0 t)) g c))

  pub decides_exists : (out' : List ℕ) × (r : ℕ) × Decides t g c out out' r
  decides_exists = let (j, p) = essential_judged (table_at 0 t) g c (rows_size 2 t) in gives_exists out decide_dec j p

  pub decides_served : 66 ≤ length t → 1 ≤ length out → (j : Result Bool Refusal)
      → Judged (pair_refusal (table_at 0 t) g c) (Essential (table_rows (table_at 0 t)) g c) j → (out' : List ℕ) (r : ℕ) → Decides t g c out out' r
      → (r ≡ (judgement j).refusal) × (out' ≡ words_after (judgement j).refusal (yes_no (judgement j).value ∷ []) out)
  decides_served lt lo =
      gives_is out (judged_unique (pair_refusal (table_at 0 t) g c) (Essential (table_rows (table_at 0 t)) g c)) (long_two lt lo)

-- ---- what both entries on pairs claim, put to use
pub claims_used : (t : List ℕ) → ClaimsConflicts t → table_refusal (table_at 0 t) ≡ 0 → ConflictClaims (table_rows (table_at 0 t))
claims_used t h e = h e
