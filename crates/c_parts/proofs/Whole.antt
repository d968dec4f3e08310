-- Any choice of parts, in words (`lists_whole_words`): the words of a choice read as a choice by value (`word-choice`), since what the entries put is read back
-- (`split-read`), and a closed run on words reads as one by value (`closed_read`). So what holds by value holds of the words.
--
-- In order: candidates are numbers that words hold; a part split, in words; any choice; the runs.
--
-- Elsewhere: the same by value, split/proofs/Whole.antt.
use mathlib.Core.Path.{◌≡◌, refl, sym, ap, ap₂, ◌∙◌, subst}
use mathlib.Core.Logic.{inr, ◌≢◌}
use mathlib.Core.Bool.{Bool, true, false, cond}
use mathlib.Core.List.Memᴰ
use mathlib.Core.List.{List, [], ◌∷◌, ◌++◌, map, map-append, Memᴰ}
use Prim.Native.Nat.{ℕ, zero, suc, ◌≤◌, ◌<◌}
use native.Mathlib.Decide.{dec_lt}
use native.Mathlib.Nat.{zero-add}
use native.Mathlib.Omega.{arith}
use lib.ListN.{length, get_or, drop, length-map, get_or-append}
use lib.Seq.{sets as stored}
use Rattle.basics.proofs.Clash.{clash}
use Rattle.refusals.specs.Answers.{Answer}
use Rattle.table.specs.declared.Table.{Table}
use Rattle.table.specs.Tables.{padded}
use Rattle.table.proofs.Padding.{pad_length, pad_get_or}
use Rattle.rules.specs.Sequences.{All}
use Rattle.rules.specs.Machine.{Down, at}
use Rattle.rules.proofs.Sequences.{All_of, All_get, All_append}
use Rattle.lists.specs.Lists.{Side}
use Rattle.lists.specs.Preferred.{candidate_by, chosen, candidates_by}
use Rattle.runs.specs.Paused.{Value}
use Rattle.runs.specs.Calling.{held, value_refusal, PausedAt}
use Rattle.split.specs.Entries.{next_picks, CandidatesAt}
use Rattle.split.specs.Whole.{numbers_in, PartsOf, SplitInto, Choice, itself, replaced, ClosedRun, EachClosed}
use Rattle.split.proofs.Trying.{candidate_low}
use Rattle.split.proofs.Whole.{IsPart, choice-parts, lists_whole}
use Rattle.words.specs.Layouts.{numbers_at, word_at}
use Rattle.words.proofs.Answers.{gives_long, gives_zero}
use Rattle.words.proofs.Back.{numbers_are, front_is}
use Rattle.run_words.specs.Values.{value_at}
use Rattle.run_words.proofs.ReadingBack.{Numbers, numbers_read}
use Rattle.c_runs.specs.Calls.{Seen, steps_read}
use Rattle.c_runs.proofs.Sides.{Startable, few}
use Rattle.c_runs.proofs.WordCalls.{word_calls}
use Rattle.c_parts.specs.Serving.{PutsCandidates, WordPartsOf, WordSplitInto, WordChoice, words_itself, words_replaced}
use Rattle.c_parts.specs.Serving.{ClosedWordRun, EachWordClosed, ListsWholeWords}
use Rattle.c_parts.proofs.Reading.{read_starts, part-back, part-read}

-- ---- candidates are numbers that words hold
module _ (f : ℕ → Bool) where
  chosen_few : (l : List ℕ) → length (chosen f l) ≤ length l
  unfolding chosen
  chosen_few [] = omega arith
  chosen_few (x ∷ l) = go (f x) (chosen_few l)
    where
      go : (b : Bool) → length (chosen f l) ≤ length l → length (cond b (x ∷ chosen f l) (chosen f l)) ≤ suc (length l)
      go true h = omega arith
      go false h = omega arith

  chosen_small : (n : ℕ) → ((i : ℕ) → f i ≡ true → i < n) → (l : List ℕ) (j : ℕ) → get_or (map suc (chosen f l)) j 0 ≤ n
  unfolding chosen
  chosen_small n h [] j = omega arith
  chosen_small n h (x ∷ l) j = go (f x) refl j (chosen_small n h l)
    where
      go : (b : Bool) → f x ≡ b → (j : ℕ) → ((i : ℕ) → get_or (map suc (chosen f l)) i 0 ≤ n) → get_or (map suc (cond b (x ∷ chosen f l) (chosen f l))) j 0 ≤ n
      go true e zero on = omega (arith, h x e)
      go true e (suc j) on = on j
      go false e j on = on j

candidates_numbers : (o r p : List ℕ) → length o ≤ 64 → length r ≤ 64 → Numbers (padded (map suc (candidates_by o r p)))
unfolding candidates_by
candidates_numbers o r p long few = record {
  size = pad_length (map suc k) (omega (arith, length-map k suc, chosen_few (candidate_by o r p) o));
  small = λ j. omega (arith, pad_get_or (map suc k) j, chosen_small (candidate_by o r p) (length r) (candidate_low o r p) o j);
}
  where
    k : List ℕ
    k = chosen (candidate_by o r p) o

-- what was put at the front of a slice is read there
numbers_back : (out k : List ℕ) → 64 ≤ length out → Numbers k → numbers_at 0 (stored out 0 k) ≡ k
numbers_back out k l h =
    numbers_are (stored out 0 k) 0 k h.size (λ i b. (
      ap (word_at (stored out 0 k)) (zero-add i) ∙ ap (λ (x : List ℕ). get_or x i 0) (front_is out k (omega (arith, h.size)))
          ∙ get_or-append k (drop (length k) out) 0 i (omega (arith, h.size)),
      h.small i,
    ))

-- the words of a run
abbrev Long : List ℕ → Type 0
Long u = 199 ≤ length u

module _ (side : Table → Side) (all : Startable side) (n : ℕ) where
  -- ---- a part split, in words
  module _ (w : List ℕ) (h : IsPart side (value_at n w)) where
    abbrev v : Value
    v = value_at n w

    -- the numbers that are read are those of the candidates
    pub found-read : (out numbers : List ℕ) → PutsCandidates side n w out numbers 0 → CandidatesAt side v (record { refusal = 0; value = numbers_at 0 numbers })
    found-read out numbers puts =
        let (a, c, z, put) = gives_zero out numbers 0 refl puts in
        let is : a ≡ record { refusal = 0; value = padded (map suc (next_picks side v h.picks)) } =
        c.candidates.picks h.starts.passed h.picks h.stands in
        let k : Numbers a.value = subst Numbers (sym (ap (λ (x : Answer (List ℕ)). x.value) is)) small in
        let read : numbers_at 0 numbers ≡ a.value = ap (numbers_at 0) put ∙ numbers_back out a.value room k in
        subst (CandidatesAt side v) (answer a z (numbers_at 0 numbers) read) c.candidates
      where
        answer : (a : Answer (List ℕ)) → a.refusal ≡ 0 → (l : List ℕ) → l ≡ a.value → a ≡ record { refusal = 0; value = l }
        answer a z l e = ap₂ (λ (m : ℕ) (x : List ℕ). record { refusal = m; value = x }) z (sym e)

        count : (side v.table).count ≤ 64
        count = few side v.table v.order (numbers_read 67 w).size h.starts

        small : Numbers (padded (map suc (next_picks side v h.picks)))
        small =
            candidates_numbers (held side v) (side v.table).rows h.picks (omega (arith, count, h.starts.arranged.size))
            (omega (arith, count, h.starts.fair.counted))

        room : 64 ≤ length out
        room = go (dec_lt (length out) 64)
          where
            go : Dec (length out < 64) → 64 ≤ length out
            go (yes z) = absurd (gives_long out numbers 0 refl puts (inr z))
            go (no z) = omega arith

    parts-read : (gs : List ℕ) (us : List (List ℕ)) → WordPartsOf side n w gs us → PartsOf side v gs (map (value_at n) us) × All Long us
    parts-read [] [] d = (tt, tt)
    parts-read [] (u ∷ us) d = absurd d
    parts-read (g ∷ gs) [] d = absurd d
    parts-read (g ∷ gs) (u ∷ us) d =
        let (out, x) = d.0 in
        let r = parts-read gs us d.1 in
        ((part-read side all n w g out u 0 x.gives refl, r.0), ((part-back side all n w g out u 0 x.gives refl).long, r.1))

    pub split-read : (us : List (List ℕ)) → WordSplitInto side n w us → SplitInto side v (map (value_at n) us) × All Long us
    split-read us d =
        let r = parts-read (numbers_in (numbers_at 0 d.numbers)) us d.parts in (
          record {
            picks = numbers_at 0 d.numbers;
            found = found-read d.out d.numbers d.found;
            parts = r.0;
            some = not_none us d.some;
          },
          r.1,
        )
      where
        not_none : (us : List (List ℕ)) → us ≢ [] → map (value_at n) us ≢ []
        not_none [] k e = k refl
        not_none (u ∷ us) k e = clash cc

  -- ---- any choice
  module _ (w : List ℕ) (long : Long w) (ok : value_refusal side (value_at n w) ≡ 0) (p : List ℕ) (h : PausedAt side (value_at n w) (at p Down)) where
    abbrev Chosen : List (List ℕ) → Type 0
    Chosen us = Choice side (value_at n w) (map (value_at n) us) × All Long us

    -- a part of it
    pub part_in : (us : List (List ℕ)) (u : List ℕ) → Memᴰ u us → Choice side (value_at n w) (map (value_at n) us) → IsPart side (value_at n u)
    part_in us u m k = All_get (IsPart side) (Memᴰ.map (value_at n) m) (choice-parts side (value_at n w) (read_starts side all n w ok) p h k)

    more : (b c us : List (List ℕ)) (u : List ℕ) → Chosen (b ++ (u ∷ c)) → WordSplitInto side n u us → Chosen (b ++ (us ++ c))
    more b c us u (k, l) d =
        let x = split-read u (part_in (b ++ (u ∷ c)) u (Memᴰ.append_right b (Memᴰ.head refl)) k) us d in (
          subst (Choice side (value_at n w))
              (sym (map-append (value_at n) b (us ++ c) ∙ ap (λ (m : List Value). map (value_at n) b ++ m) (map-append (value_at n) us c)))
              (replaced (map (value_at n) b) (map (value_at n) c) (map (value_at n) us) (value_at n u)
              (subst (Choice side (value_at n w)) (map-append (value_at n) b (u ∷ c)) k) x.0),
          All_append Long b (us ++ c) (All_of Long b (λ y m. All_get Long (Memᴰ.append_left (u ∷ c) m) l))
              (All_append Long us c x.1 (All_of Long c (λ y m. All_get Long (Memᴰ.append_right b (Memᴰ.tail m)) l))),
        )

    pub word-choice : {us : List (List ℕ)} → WordChoice side n w us → Chosen us
    word-choice words_itself = (itself, (long, tt))
    word-choice (words_replaced b c us u k d) = more b c us u (word-choice k) d

  -- ---- the runs
  closed_read : (u : List ℕ) → Long u → (xs : List Seen) → ClosedWordRun side n u xs → ClosedRun side (value_at n u) (steps_read n xs)
  closed_read u l xs c =
      record { budgets = c.budgets; calls = (word_calls side all n u l c.budgets xs c.calls).holds; closed = c.closed }

  each_read : (us : List (List ℕ)) → All Long us → (xss : List (List Seen)) → EachWordClosed side n us xss
      → EachClosed side (map (value_at n) us) (map (steps_read n) xss)
  each_read [] l [] e = tt
  each_read [] l (xs ∷ xss) e = absurd e
  each_read (u ∷ us) l [] e = absurd e
  each_read (u ∷ us) l (xs ∷ xss) e = (closed_read u l.0 xs e.0, each_read us l.1 xss e.1)

  pub lists_whole_words : (w : List ℕ) → 199 ≤ length w → ListsWholeWords side n w
  lists_whole_words w long ok p h us k xss e =
      let c = word-choice w long ok p h k in
      lists_whole side (value_at n w) (read_starts side all n w) ok p h (map (value_at n) us) c.0 (map (steps_read n) xss) (each_read us c.1 xss e)
