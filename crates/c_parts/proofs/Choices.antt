-- What is said of a choice of parts in words can be met, on either side, and leaves one answer, as by value (split/proofs/Choices.antt). In every choice each
-- part is the words of a part, and where it has a candidate it can give its place to the parts of its candidates (`word-choice-goes-on`), which read as the
-- same values however they are put (`word-split-same`). Every choice can be run to its close, also by a run that omits (`word-runs-exist`). And all choices,
-- however they are run, hand out the same (`word-whole-same`).
--
-- In order: the words of a part, split and closed; any choice.
--
-- Pins, which nothing else cites: `word-choice-goes-on`, `word-split-same`, `word-runs-exist`, `word-whole-same`.
use mathlib.Core.Path.{◌≡◌, refl, sym, ap, ◌∙◌, subst}
use mathlib.Core.Logic.{◌≢◌}
use mathlib.Core.List.{List, [], ◌∷◌, ◌++◌, map, Memᴰ}
use Prim.Native.Nat.{ℕ, suc, ◌-◌, ◌≤◌}
use native.Mathlib.Omega.{arith}
use lib.ListN.{length, replicate, length-replicate}
use Rattle.basics.proofs.Clash.{clash}
use Rattle.refusals.specs.Answers.{Answer}
use Rattle.table.specs.declared.Table.{Table}
use Rattle.rules.specs.Sequences.{All}
use Rattle.rules.specs.Machine.{Down, at}
use Rattle.rules.proofs.Sequences.{All_get}
use Rattle.lists.specs.Lists.{Side}
use Rattle.parts.proofs.Joining.{part_unique}
use Rattle.runs.specs.Paused.{Value}
use Rattle.runs.specs.Calling.{held, value_refusal, PausedAt}
use Rattle.split.specs.Entries.{next_picks}
use Rattle.split.specs.Listing.{handed_over}
use Rattle.split.specs.Whole.{numbers_in, sets_of_all}
use Rattle.split.proofs.Whole.{numbers_padded, IsPart}
use Rattle.split.proofs.Choices.{split_unique, closing_budgets}
use Rattle.run_words.specs.Values.{value_at}
use Rattle.words.specs.Layouts.{numbers_at}
use Rattle.c_runs.specs.Calls.{Seen, steps_read}
use Rattle.c_runs.proofs.Sides.{Startable}
use Rattle.c_runs.proofs.WordCalls.{word_calls}
use Rattle.c_runs.proofs.Pinned.{Lent, word_calls_exist}
use Rattle.c_parts.specs.Serving.{PutsCandidates, GivesPart, WordPartsOf, WordSplitInto, WordChoice, words_replaced}
use Rattle.c_parts.specs.Serving.{ClosedWordRun, EachWordClosed, ListsWholeWords}
use Rattle.c_parts.proofs.Whole.{found-read, split-read, part_in, word-choice}
use Rattle.c_parts.proofs.Pinned.{candidates-words-exist, part-words-exist, PartWords, candidates-words-again, part-words-again}

-- some slice of n words
abbrev blank : ℕ → List ℕ
blank n = replicate n 0

module _ (side : Table → Side) (all : Startable side) (n : ℕ) where
  -- ---- the words w of a part
  module _ (w : List ℕ) (long : 199 ≤ length w) (h : IsPart side (value_at n w)) where
    abbrev v : Value
    v = value_at n w

    abbrev next : List ℕ
    next = next_picks side v h.picks

    part-words : PartWords side n w h.picks
    part-words = record { long = long; passes = h.starts.passed; stands = h.stands }

    parts-put : (k : List ℕ) → ((i : ℕ) → Memᴰ i k → Memᴰ i next) → (us : List (List ℕ)) × WordPartsOf side n w (map suc k) us × (us ≡ [] → k ≡ [])
    parts-put [] m = ([], tt, λ e. refl)
    parts-put (i ∷ k) m =
        let (u, r, g) = part-words-exist side n w (suc i) (blank 199) all in
        let z = (part-words-again side all n w h.picks part-words i (m i (mathlib.Core.List.Memᴰ.head refl)) (blank 199) u r
        (omega (arith, length-replicate {A = ℕ} 199 0)) g).0 in
        let (us, d, e) = parts-put k (λ j o. m j (mathlib.Core.List.Memᴰ.tail o)) in
        (u ∷ us, ((blank 199, subst (GivesPart side n w (suc i) (blank 199) u) z g), d), λ x. clash cc)

    word-split-exists : next ≢ [] → (us : List (List ℕ)) × WordSplitInto side n w us
    word-split-exists some =
        let (out, r, g) = candidates-words-exist side n w (blank 64) all in
        let z = (candidates-words-again side all n w h.picks part-words (blank 64) out r (omega (arith, length-replicate {A = ℕ} 64 0)) g).0 in
        let found : PutsCandidates side n w (blank 64) out 0 = subst (PutsCandidates side n w (blank 64) out) z g.gives in
        let named : numbers_in (numbers_at 0 out) ≡ map suc next =
        ap (λ (a : Answer (List ℕ)). numbers_in a.value)
        ((found-read side all n w h (blank 64) out found).picks h.starts.passed h.picks h.stands)
        ∙ numbers_padded next (64 - length (map suc next)) in
        let (us, d, e) = parts-put next (λ i m. m) in (
          us,
          record {
            out = blank 64;
            numbers = out;
            found = found;
            parts = subst (λ (l : List ℕ). WordPartsOf side n w l us) (sym named) d;
            some = λ x. some (e x);
          },
        )

    pub word-split-same : (us ys : List (List ℕ)) → WordSplitInto side n w us → WordSplitInto side n w ys → map (value_at n) us ≡ map (value_at n) ys
    word-split-same us ys a b =
        split_unique side v h (map (value_at n) us) (map (value_at n) ys) (split-read side all n w h us a).0 (split-read side all n w h ys b).0

    lent : (bs : List ℕ) → (outs : List (List ℕ)) × Lent bs outs
    lent [] = ([], tt)
    lent (b ∷ bs) = let (outs, l) = lent bs in (blank 131 ∷ outs, (omega (arith, length-replicate {A = ℕ} 131 0), l))

    closed-exists : (xs : List Seen) × ClosedWordRun side n w xs
    closed-exists =
        let (bs, close) = closing_budgets side v h in
        let (outs, l) = lent bs in
        let (xs, c, e) = word_calls_exist side n all w bs outs l in
        (xs, record { budgets = bs; calls = c; closed = close (steps_read n xs) (word_calls side all n w long bs xs c).holds })

  -- ---- any choice
  all_closed : (us : List (List ℕ)) → All (λ (u : List ℕ). 199 ≤ length u) us → ((u : List ℕ) → Memᴰ u us → IsPart side (value_at n u))
      → (xss : List (List Seen)) × EachWordClosed side n us xss
  all_closed [] l h = ([], tt)
  all_closed (u ∷ us) l h =
      let (xs, c) = closed-exists u l.0 (h u (mathlib.Core.List.Memᴰ.head refl)) in
      let (xss, e) = all_closed us l.1 (λ y m. h y (mathlib.Core.List.Memᴰ.tail m)) in
      (xs ∷ xss, (c, e))

  module _ (w : List ℕ) (long : 199 ≤ length w) (ok : value_refusal side (value_at n w) ≡ 0) (p : List ℕ) (h : PausedAt side (value_at n w) (at p Down)) where
    pub word-runs-exist : (us : List (List ℕ)) → WordChoice side n w us → (xss : List (List Seen)) × EachWordClosed side n us xss
    word-runs-exist us k =
        let (c, l) = word-choice side all n w long ok p h k in
        all_closed us l (λ u m. part_in side all n w long ok p h us u m c)

    -- the words of a part of a choice, and the choice where it is split, which it can be where it has a candidate
    pub word-choice-goes-on : (b c : List (List ℕ)) (u : List ℕ) → WordChoice side n w (b ++ (u ∷ c))
        → (q : List ℕ) × PausedAt side (value_at n u) (at q Down)
        × (next_picks side (value_at n u) q ≢ [] → (us : List (List ℕ)) × WordSplitInto side n u us × WordChoice side n w (b ++ (us ++ c)))
    word-choice-goes-on b c u k =
        let (d, l) = word-choice side all n w long ok p h k in
        let here : Memᴰ u (b ++ (u ∷ c)) = mathlib.Core.List.Memᴰ.append_right b (mathlib.Core.List.Memᴰ.head refl) in
        let x = part_in side all n w long ok p h (b ++ (u ∷ c)) u here d in (
          x.picks,
          x.stands,
          λ some.
              let (us, s) = word-split-exists u (All_get (λ (y : List ℕ). 199 ≤ length y) here l) x some in
              (us, s, words_replaced b c us u k s),
        )

    pub word-whole-same : ListsWholeWords side n w → (us ys : List (List ℕ)) → WordChoice side n w us → WordChoice side n w ys
        → (xss zss : List (List Seen)) → EachWordClosed side n us xss → EachWordClosed side n ys zss
        → sets_of_all (map (value_at n) us) (map (steps_read n) xss) ≡ sets_of_all (map (value_at n) ys) (map (steps_read n) zss)
    word-whole-same whole us ys a b xss zss c d =
        let v = value_at n w in
        let x = whole ok p h us a xss c in
        let y = whole ok p h ys b zss d in
        x.handed ∙ ap (handed_over v.table v.omit)
        (part_unique v.table (side v.table) (held side v) p x.list y.list x.listed y.listed) ∙ sym y.handed
