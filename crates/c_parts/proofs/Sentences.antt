-- What a caller reads off the promises, sentence by sentence (specs/Serving): of the candidates of a part and of the part of one, by value and on words.
--
-- In order: the run calls that list a part (`HandsPart`); the candidates by value: refused (`candidates_refused`), named (`candidates-given`), that their
-- parts, one after the other, are the part (`candidates-divide`, `candidates-join`), that run calls list it (`candidates-list`), and that any choice of parts
-- in its place, each run to its close, does (`candidates-whole`), also on words (`candidates_words_list`, `candidates_words_whole`, and from a fresh start
-- `fresh_words_whole`); the part of one by value: refused (`part_refused`), made (`part-given`), and that run calls list it (`part_list`); and on words, which
-- read as the part (`part-words-read`), and that run calls list it (`part-words-list`).
--
-- Elsewhere: the number returned and the words left, words/proofs/Sentences; that the words of a part are taken again, Pinned.antt.
use mathlib.Core.Path.{◌≡◌, refl, sym, ap, ◌∙◌, subst}
use mathlib.Core.Bool.{Bool, true}
use mathlib.Core.List.{List, [], ◌∷◌, ◌++◌, map, Memᴰ}
use Prim.Native.Nat.{ℕ, suc, ◌≤◌, ◌<◌}
use lib.ListN.{length}
use Rattle.refusals.specs.Answers.{Answer}
use Rattle.table.specs.declared.Table.{Table}
use Rattle.table.specs.Tables.{padded}
use Rattle.rules.specs.Machine.{Down, at, fresh}
use Rattle.lists.specs.Lists.{Side, PreferredList}
use Rattle.parts.specs.Parts.{PartList, PartLists, joined, split_at}
use Rattle.runs.specs.Paused.{Value, paused}
use Rattle.runs.specs.Calling.{Step, arrangement, held, value_refusal, PausedAt, last_value}
use Rattle.runs.specs.Demand.{handed_sets}
use Rattle.runs.specs.Omitting.{CallsEither}
use Rattle.split.specs.Entries.{next_picks, no_picks, no_part, Divides}
use Rattle.split.specs.Listing.{is_in_part, part_sets, is_closed, handed_over, PartRun}
use Rattle.split.specs.Whole.{Choice, EachClosed, sets_of_all, WholeRun}
use Rattle.split.proofs.Sentences.{whole_handed, whole_list}
use Rattle.run_words.specs.Values.{value_at}
use Rattle.c_runs.specs.Calls.{Seen, WordCalls, steps_read, FreshWords}
use Rattle.c_parts.specs.Serving.{Candidates, GivesCandidates, Part, GivesPart, WordChoice, EachWordClosed}

-- ---- the run calls that list a part
-- the answers rs of run calls from the part v, with the picks p, hand over a front of its list, and all of it once they have closed the part
abbrev pub HandsPart : (Table → Side) → Value → List ℕ → List Step → Type 0
HandsPart side v p rs =
    (list : List (List ℕ)) × PartList v.table (side v.table) (held side v) p list
    × ((rest : List (List ℕ)) × (part_sets v rs ++ rest ≡ handed_over v.table v.omit list))
    × (is_closed v rs ≡ true → part_sets v rs ≡ handed_over v.table v.omit list)
    × (is_in_part v (last_value v rs) ≡ true → part_sets v rs ≡ handed_sets rs)

hands_part : (side : Table → Side) (v : Value) (p : List ℕ) (rs : List Step) → PartRun side v p rs → HandsPart side v p rs
hands_part side v p rs h = (h.list, h.listed, h.front, h.complete, h.inside)

module _ (side : Table → Side) (v : Value) where
  abbrev t : Table
  t = v.table

  abbrev here : Side
  here = side t

  abbrev order : List ℕ
  order = held side v

  -- ---- the candidates, by value
  pub candidates_refused : (a : Answer (List ℕ)) → Candidates side v a
      → (0 < value_refusal side v → a ≡ no_picks (value_refusal side v))
      × (value_refusal side v ≡ 0 → ((p : List ℕ) → PausedAt side v (at p Down) → ⊥) → a ≡ no_picks 15)
  candidates_refused a c = (c.candidates.table, c.candidates.value)

  -- ---- the part of the number g, by value
  pub part_refused : (g : ℕ) (a : Answer Value) → Part side v g a
      → (0 < value_refusal side v → a ≡ no_part (value_refusal side v))
      × (value_refusal side v ≡ 0 → ((p : List ℕ) → PausedAt side v (at p Down) → ⊥) → a ≡ no_part 15)
  part_refused g a x = (x.part.table, x.part.value)

  -- v is the part with the picks p
  module _ (ok : value_refusal side v ≡ 0) (p : List ℕ) (h : PausedAt side v (at p Down)) where
    pub candidates-given : (a : Answer (List ℕ)) → Candidates side v a → (a.refusal ≡ 0) × (a.value ≡ padded (map suc (next_picks side v p)))
    candidates-given a c =
        let e = c.candidates.picks ok p h in
        (ap (λ (x : Answer (List ℕ)). x.refusal) e, ap (λ (x : Answer (List ℕ)). x.value) e)

    pub candidates-divide : (a : Answer (List ℕ)) → Candidates side v a → Divides t here order p
    candidates-divide a c = c.splits ok p h

    -- "the parts of its candidates, one after the other, are the part"
    pub candidates-join : (a : Answer (List ℕ)) → Candidates side v a → (xss : List (List (List ℕ))) → PartLists t here order (split_at here order p) xss
        → PartList t here order p (joined xss)
    candidates-join a c xss l = (c.splits ok p h).joins p (split_at here order p) xss (c.splits ok p h).splits l

    pub candidates-list : (a : Answer (List ℕ)) → Candidates side v a → (bs : List ℕ) (rs : List Step) → CallsEither side v bs rs → HandsPart side v p rs
    candidates-list a c bs rs q = hands_part side v p rs (c.lists ok p h bs rs q)

    -- any choice of parts in its place, where its list is xs
    pub candidates-whole : (a : Answer (List ℕ)) → Candidates side v a → (vs : List Value) → Choice side v vs → (rss : List (List Step))
        → EachClosed side vs rss → (xs : List (List ℕ)) → PartList t here order p xs → sets_of_all vs rss ≡ handed_over t v.omit xs
    candidates-whole a c vs k rss e xs l = whole_handed side v vs rss p (c.whole ok p h vs k rss e) xs l

    pub part-given : (g : ℕ) (a : Answer Value) → Part side v g a
        → ((i : ℕ) → Memᴰ i (next_picks side v p) → g ≡ suc i
        → a ≡ record { refusal = 0; value = paused t v.order v.omit (at (p ++ (i ∷ [])) Down) })
        × (((i : ℕ) → Memᴰ i (next_picks side v p) → g ≡ suc i → ⊥) → a ≡ no_part 15)
    part-given g a x = (x.part.part ok p h, x.part.other ok p h)

-- run calls from the part that was made
pub part_list : (side : Table → Side) (v : Value) (g : ℕ) (a : Answer Value) → Part side v g a → value_refusal side a.value ≡ 0 → (p : List ℕ)
    → PausedAt side a.value (at p Down) → (bs : List ℕ) (rs : List Step) → CallsEither side a.value bs rs → HandsPart side a.value p rs
part_list side v g a x ok p h bs rs q = hands_part side a.value p rs (x.lists ok p h bs rs q)

-- ---- on words
module _ (side : Table → Side) (n : ℕ) (w out out' : List ℕ) (r : ℕ) where
  pub candidates_words_list : GivesCandidates side n w out out' r → 199 ≤ length w → value_refusal side (value_at n w) ≡ 0 → (p : List ℕ)
      → PausedAt side (value_at n w) (at p Down) → (bs : List ℕ) (xs : List Seen) → WordCalls side n w bs xs
      → HandsPart side (value_at n w) p (steps_read n xs)
  candidates_words_list x l ok p h bs xs c = hands_part side (value_at n w) p (steps_read n xs) (x.lists l ok p h bs xs c)

  -- any choice of parts in its place, where its list is xs
  pub candidates_words_whole : GivesCandidates side n w out out' r → 199 ≤ length w → value_refusal side (value_at n w) ≡ 0 → (p : List ℕ)
      → PausedAt side (value_at n w) (at p Down) → (us : List (List ℕ)) → WordChoice side n w us → (xss : List (List Seen)) → EachWordClosed side n us xss
      → (xs : List (List ℕ)) → PartList (value_at n w).table (side (value_at n w).table) (held side (value_at n w)) p xs
      → sets_of_all (map (value_at n) us) (map (steps_read n) xss) ≡ handed_over (value_at n w).table (value_at n w).omit xs
  candidates_words_whole x l ok p h us k xss e xs m =
      whole_handed side (value_at n w) (map (value_at n) us) (map (steps_read n) xss) p (x.whole l ok p h us k xss e) xs m

  -- w holds the fresh start of a table t with the preference in k
  pub fresh_words_whole : GivesCandidates side n w out out' r → (t : Table) (k : List ℕ) (omit : Bool) → FreshWords n t k omit w
      → value_refusal side (paused t k omit fresh) ≡ 0 → (us : List (List ℕ)) → WordChoice side n w us → (xss : List (List Seen)) → EachWordClosed side n us xss
      → (xs : List (List ℕ)) → PreferredList t (side t) (arrangement (side t) k) xs
      → sets_of_all (map (value_at n) us) (map (steps_read n) xss) ≡ handed_over t omit xs
  fresh_words_whole x t k omit f ok us c xss e xs m =
      let v = value_at n w in
      let start : PausedAt side (paused t k omit fresh) fresh = record { reached = record { count = 0; leads = refl }; stands = refl } in
      let run : WholeRun side v [] (map (value_at n) us) (map (steps_read n) xss) =
      x.whole f.long (ap (value_refusal side) f.reads ∙ ok) [] (subst (λ (u : Value). PausedAt side u fresh) (sym f.reads) start) us c xss e in
      whole_list side (paused t k omit fresh) (map (value_at n) us) (map (steps_read n) xss)
      (subst (λ (u : Value). WholeRun side u [] (map (value_at n) us) (map (steps_read n) xss)) f.reads run) xs m

  module _ (g : ℕ) where
    pub part-words-read : GivesPart side n w g out out' r → r ≡ 0 → value_refusal side (value_at n w) ≡ 0 → (p : List ℕ)
        → PausedAt side (value_at n w) (at p Down) → (i : ℕ) → Memᴰ i (next_picks side (value_at n w) p) → g ≡ suc i
        → value_at n out' ≡ paused (value_at n w).table (value_at n w).order (value_at n w).omit (at (p ++ (i ∷ [])) Down)
    part-words-read x e ok p h i m d = ap (λ (a : Answer Value). a.value) ((x.reads e).part ok p h i m d)

    pub part-words-list : GivesPart side n w g out out' r → r ≡ 0 → value_refusal side (value_at n out') ≡ 0 → (p : List ℕ)
        → PausedAt side (value_at n out') (at p Down) → (bs : List ℕ) (xs : List Seen) → WordCalls side n out' bs xs
        → HandsPart side (value_at n out') p (steps_read n xs)
    part-words-list x e ok p h bs xs c = hands_part side (value_at n out') p (steps_read n xs) (x.lists e ok p h bs xs c)
