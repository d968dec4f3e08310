-- What the entries on trials give is there for every input, and is one thing only; and what a trial left in a slice
-- can be committed.
--
-- In order: one answer (`tries_unique`, `tries_exists`, `commits_unique`, `commits_exists`), with slices no longer
-- than their layouts (`tries_served`, `commits_served`); a proposal of 64 rows each is read back from its words
-- (`proposal_back`), so what a trial that returned 0 left reads as its proposal (`tries_proposal`); what a commit
-- that returned 0 left reads as its table, a legal one (`commits_table`, `commits_legal`); the commit of what a trial
-- left, on the same table, returns 0 and leaves the table with the entry flipped (`trial_commits`); a proposal whose
-- word of the effect is none gets 26, after 10 and 11 (`no_effect_refused`).
--
-- Elsewhere: what holds of every entry, words/proofs/Answers and Back; R-10's laws of trials and commits,
-- trials/proofs/Answers and Commits.
use mathlib.Core.Path.{◌≡◌, refl, sym, ap, ap₂, ◌∙◌, subst}
use mathlib.Core.Bool.{Bool, cond}
use mathlib.Core.Logic.{◌⊎◌, inl, inr}
use mathlib.Core.List.{List, [], ◌∷◌, ◌++◌, append_assoc}
use Prim.Native.Nat.{ℕ, ◌+◌, ◌≤◌, ◌<◌}
use native.Mathlib.Decide.{ℕ_discrete}
use native.Mathlib.Omega.{arith}
use lib.Dec.{eqb}
use lib.ListN.{length, drop, get_or, length-append}
use lib.Seq.{sets as stored, length-sets}
use borrow.Author.Tests.{eq-eqb, ne_eqb}
use Rattle.refusals.specs.Answers.{Answer}
use Rattle.table.specs.declared.Table.{Table}
use Rattle.table.specs.declared.Chain.{Chain}
use Rattle.table.specs.Tables.{Legal, table_refusal}
use Rattle.trials.specs.Trials.{Flipped, Proposes, Tried, IsTrialOn, Committed}
use Rattle.trials.specs.declared.Proposal.{Proposal}
use Rattle.trials.specs.declared.Effect.{Effect}
use Rattle.trials.specs.declared.Effect.TheVariants.{StillMaximal, OnlyChain, NotWithin}
use Rattle.trials.proofs.Answers.{answer_same, tried_unique, tried_exists, tried-placed, tried-proposes}
use Rattle.trials.proofs.Commits.{committed_unique, committed_exists, commits, fresh_commits}
use Rattle.words.specs.Layouts.{word_at, table_at, chain_at, table_words, chain_words}
use Rattle.words.specs.Serving.{words_after, Served}
use Rattle.words.proofs.Serving.{long_two, long_more}
use Rattle.words.proofs.Answers.{short_dec, or_dec, gives_is, gives_exists, gives_unique, gives_zero, gives_long, gives_kept}
use Rattle.words.proofs.Back.{rows_size, front_is, word_behind, table_behind, chain_behind, table_left}
use Rattle.c_trials.specs.Serving.{effect_of, effect_word, place_word, proposal_at, proposal_words, Tries, Commits}
use Rattle.c_trials.proofs.Serving.{place_low, place_high}

-- ---- one answer
module _ (t s : List ℕ) (g c : ℕ) (out : List ℕ) where
  trial_dec : Dec ((length t < 66) ⊎ ((length s < 65) ⊎ (length out < 134)))
  trial_dec = or_dec (short_dec t 66) (or_dec (short_dec s 65) (short_dec out 134))

  pub tries_unique : (a b : List ℕ) (r q : ℕ) → Tries t s g c out a r → Tries t s g c out b q → (a ≡ b) × (r ≡ q)
  tries_unique = gives_unique out trial_dec (tried_unique (table_at 0 t) (chain_at 0 s) g c (rows_size 2 t) (rows_size 1 s))

  pub tries_exists : (out' : List ℕ) × (r : ℕ) × Tries t s g c out out' r
  tries_exists = let (a, p) = tried_exists (table_at 0 t) (chain_at 0 s) g c (rows_size 2 t) (rows_size 1 s) in gives_exists out trial_dec a p

  -- 66, 65 and 134 words are enough: it is the number and the proposal of the library's answer
  pub tries_served : 66 ≤ length t → 65 ≤ length s → 134 ≤ length out → (a : Answer Proposal) → Tried (table_at 0 t) (chain_at 0 s) g c a
      → (out' : List ℕ) (r : ℕ) → Tries t s g c out out' r → (r ≡ a.refusal) × (out' ≡ words_after a.refusal (proposal_words a.value) out)
  tries_served lt ls lo =
      gives_is out (tried_unique (table_at 0 t) (chain_at 0 s) g c (rows_size 2 t) (rows_size 1 s)) (long_more lt (long_two ls lo))

module _ (p t out : List ℕ) where
  commit_dec : Dec ((length p < 134) ⊎ ((length t < 66) ⊎ (length out < 66)))
  commit_dec = or_dec (short_dec p 134) (or_dec (short_dec t 66) (short_dec out 66))

  pub commits_unique : (a b : List ℕ) (r q : ℕ) → Commits p t out a r → Commits p t out b q → (a ≡ b) × (r ≡ q)
  commits_unique = gives_unique out commit_dec (committed_unique (proposal_at p) (table_at 0 t) (rows_size 2 t) (rows_size 67 p))

  pub commits_exists : (out' : List ℕ) × (r : ℕ) × Commits p t out out' r
  commits_exists = let (a, h) = committed_exists (proposal_at p) (table_at 0 t) (rows_size 2 t) (rows_size 67 p) in gives_exists out commit_dec a h

  pub commits_served : 134 ≤ length p → 66 ≤ length t → 66 ≤ length out → (a : Answer Table) → Committed (proposal_at p) (table_at 0 t) a
      → (out' : List ℕ) (r : ℕ) → Commits p t out out' r → (r ≡ a.refusal) × (out' ≡ words_after a.refusal (table_words a.value) out)
  commits_served lp lt lo =
      gives_is out (committed_unique (proposal_at p) (table_at 0 t) (rows_size 2 t) (rows_size 67 p)) (long_more lp (long_two lt lo))

-- ---- a proposal is read back
effect_back : (e : Effect) → effect_of (effect_word e) ≡ e
unfolding effect_of
effect_back StillMaximal = refl
effect_back OnlyChain = refl
effect_back NotWithin = refl

place_back : (g : ℕ) (e : Effect) → place_word g (effect_word e) ≡ g
unfolding place_word
place_back g StillMaximal = refl
place_back g OnlyChain = refl
place_back g NotWithin = refl

module _ (w : List ℕ) (p : Proposal) (long : 134 ≤ length w) (n : length p.table.rows ≡ 64) (m : length p.chain.rows ≡ 64) where
  abbrev ends : List ℕ
  ends = p.gauge.0 ∷ (p.case.0 ∷ (effect_word p.effect ∷ []))

  abbrev rest : List ℕ
  rest = drop (length (proposal_words p)) w

  abbrev after : List ℕ
  after = stored w 0 (proposal_words p)

  proposal_size : length (proposal_words p) ≡ 134
  proposal_size =
      length-append (table_words p.table ++ chain_words p.chain) ends
      ∙ ap (λ (k : ℕ). k + 3) (length-append (table_words p.table) (chain_words p.chain)) ∙ omega arith

  front : after ≡ table_words p.table ++ chain_words p.chain ++ ends ++ rest
  front = front_is w (proposal_words p) (omega (arith, proposal_size))

  -- the three parts, each with what comes after it
  at_table : after ≡ [] ++ (table_words p.table ++ (chain_words p.chain ++ (ends ++ rest)))
  at_table =
      front ∙ append_assoc (table_words p.table ++ chain_words p.chain) ends rest
      ∙ append_assoc (table_words p.table) (chain_words p.chain) (ends ++ rest)

  at_ends : after ≡ (table_words p.table ++ chain_words p.chain) ++ (ends ++ rest)
  at_ends = front ∙ append_assoc (table_words p.table ++ chain_words p.chain) ends rest

  ends_place : length (table_words p.table ++ chain_words p.chain) ≡ 131
  ends_place = length-append (table_words p.table) (chain_words p.chain) ∙ omega arith

  word : (i : ℕ) → word_at after (131 + i) ≡ get_or (ends ++ rest) i 0
  word = word_behind after (table_words p.table ++ chain_words p.chain) (ends ++ rest) 131 at_ends ends_place

  pub proposal_back : proposal_at after ≡ p
  proposal_back = λ k. record {
    table = table_behind after [] (chain_words p.chain ++ (ends ++ rest)) 0 p.table at_table refl n k;
    chain = chain_behind after (table_words p.table) (ends ++ rest) 66 p.chain at_table (omega arith) m k;
    gauge = record { 0 = gauge k };
    case = record { 0 = word 1 k };
    effect = effect k;
  }
    where
      effect-word : word_at after 133 ≡ effect_word p.effect
      effect-word = word 2

      gauge : place_word (word_at after 131) (word_at after 133) ≡ p.gauge.0
      gauge = ap₂ place_word (word 0) effect-word ∙ place_back p.gauge.0 p.effect

      effect : effect_of (word_at after 133) ≡ p.effect
      effect = ap effect_of effect-word ∙ effect_back p.effect

-- ---- what a trial left reads as its proposal
module _ (t s : List ℕ) (g c : ℕ) (out out' : List ℕ) (r : ℕ) (z : r ≡ 0) (h : Tries t s g c out out' r) where
  long_trial : 134 ≤ length out
  long_trial = let k : ¬ (length out < 134) = λ l. gives_long out out' r z h (inr (inr l)) in omega arith

  pub tries_proposal : Tried (table_at 0 t) (chain_at 0 s) g c (record { refusal = 0; value = proposal_at out' })
  tries_proposal =
      let (a, p, n, e) = gives_zero out out' r z h in
      let q : Proposes (table_at 0 t) (chain_at 0 s) g c a.value =
      tried-proposes (table_at 0 t) (chain_at 0 s) g c (rows_size 2 t) (rows_size 1 s) a p n in
      let back : proposal_at out' ≡ a.value =
      ap proposal_at e ∙ proposal_back out a.value long_trial (ap (λ (x : Table). length x.rows) q.table ∙ rows_size 2 t)
      (ap (λ (x : Chain). length x.rows) q.chain ∙ rows_size 1 s) in
      subst (Tried (table_at 0 t) (chain_at 0 s) g c) (answer_same a (record { refusal = 0; value = proposal_at out' }) n (sym back)) p

-- ---- what a commit left reads as its table
module _ (p t out out' : List ℕ) (r : ℕ) (z : r ≡ 0) (h : Commits p t out out' r) where
  legal_answer : (a : Answer Table) → Committed (proposal_at p) (table_at 0 t) a → a.refusal ≡ 0 → Legal a.value
  legal_answer a x e = (commits (proposal_at p) (table_at 0 t) (rows_size 2 t) (rows_size 67 p) a x e).legal

  pub commits_table : Committed (proposal_at p) (table_at 0 t) (record { refusal = 0; value = table_at 0 out' })
  commits_table =
      table_left out out' r z h (λ n. let k : ¬ (length out < 66) = λ l. n (inr (inr l)) in omega arith) (λ a x e. (legal_answer a x e).rows_length)

  pub commits_legal : Legal (table_at 0 out')
  commits_legal = legal_answer (record { refusal = 0; value = table_at 0 out' }) commits_table refl

-- ---- "committing a fresh trial on its own table is never refused", in words: the slice p that a trial of the table in t left, committed on the words t
pub trial_commits : (t s : List ℕ) (g c : ℕ) (before p : List ℕ) → Tries t s g c before p 0 → (out out' : List ℕ) (r : ℕ) → 66 ≤ length out
    → Commits p t out out' r → (r ≡ 0) × Flipped (table_at 0 t) g c (table_at 0 out')
trial_commits t s g c before p h out out' r long k = (zero, (fresh (record { refusal = 0; value = table_at 0 out' }) (commits_table p t out out' r zero k)).1)
  where
    fresh : (b : Answer Table) → Committed (proposal_at p) (table_at 0 t) b → (b.refusal ≡ 0) × Flipped (table_at 0 t) g c b.value
    fresh =
        fresh_commits (table_at 0 t) (chain_at 0 s) g c (rows_size 2 t) (rows_size 1 s) (record { refusal = 0; value = proposal_at p })
        (tries_proposal t s g c before p 0 refl h) refl

    size : length p ≡ length before
    size = let (a, q, n, e) = gives_zero before p 0 refl h in ap length e ∙ length-sets before 0 (proposal_words a.value)

    not_short : (length p < 134) ⊎ ((length t < 66) ⊎ (length out < 66)) → ⊥
    not_short (inl l) = omega (arith, size, long_trial t s g c before p 0 refl h)
    not_short (inr (inl l)) = gives_long before p 0 refl h (inl l)
    not_short (inr (inr l)) = omega arith

    zero : r ≡ 0
    zero = let x = k.served not_short in x.says ∙ (fresh x.answer x.promised).0

-- ---- a word that is no effect
-- the number of the table t, and else 26
abbrev pub table_first : Table → ℕ
table_first t = cond (eqb (table_refusal t) 0) 26 (table_refusal t)

module _ (p t out out' : List ℕ) (r : ℕ) (h : Commits p t out out' r) where
  no_trial : (word_at p 133 < 1) ⊎ (3 < word_at p 133) → ¬ IsTrialOn (table_at 0 t) (proposal_at p)
  no_trial w d =
      omega (
        arith,
        (tried-placed (table_at 0 t) (chain_at 66 p) (place_word (word_at p 131) (word_at p 133)) (word_at p 132) (rows_size 2 t) (rows_size 67 p)
            (record { refusal = 0; value = proposal_at p }) d refl).gauge_low,
        none w,
      )
    where
      none : (word_at p 133 < 1) ⊎ (3 < word_at p 133) → 0 ≡ place_word (word_at p 131) (word_at p 133)
      none (inl l) = place_low (word_at p 131) (word_at p 133) l
      none (inr l) = place_high (word_at p 131) (word_at p 133) (omega arith) l

  -- "26, at commit, after the current table's checks"
  pub no_effect_refused : ¬ ((length p < 134) ⊎ ((length t < 66) ⊎ (length out < 66))) → (word_at p 133 < 1) ⊎ (3 < word_at p 133)
      → (r ≡ table_first (table_at 0 t)) × (out' ≡ out)
  no_effect_refused n w = (number, gives_kept out (commit_dec p t out) out' r (λ z. positive (sym number ∙ z)) h)
    where
      x : Served (Committed (proposal_at p) (table_at 0 t)) (λ (a : Answer Table). a.refusal) (λ (a : Answer Table). table_words a.value) out out' r
      x = h.served n

      go : Dec (table_refusal (table_at 0 t) ≡ 0) → (x.answer.refusal ≡ table_first (table_at 0 t)) × (¬ (table_first (table_at 0 t) ≡ 0))
      go (yes z) =
          let e : table_first (table_at 0 t) ≡ 26 = ap (λ (b : Bool). cond b 26 (table_refusal (table_at 0 t))) (eq-eqb (table_refusal (table_at 0 t)) 0 z) in
          (ap (λ (a : Answer Table). a.refusal) (x.promised.other z (no_trial w)) ∙ sym e, λ y. omega (arith, e, y))
      go (no z) =
          let e : table_first (table_at 0 t) ≡ table_refusal (table_at 0 t) =
          ap (λ (b : Bool). cond b 26 (table_refusal (table_at 0 t))) (ne_eqb (table_refusal (table_at 0 t)) 0 z) in
          (ap (λ (a : Answer Table). a.refusal) (x.promised.refused (omega arith)) ∙ sym e, λ y. z (sym e ∙ y))

      number : r ≡ table_first (table_at 0 t)
      number = x.says ∙ (go (ℕ_discrete (table_refusal (table_at 0 t)) 0)).0

      positive : ¬ (table_first (table_at 0 t) ≡ 0)
      positive = (go (ℕ_discrete (table_refusal (table_at 0 t)) 0)).1
