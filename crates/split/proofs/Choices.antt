-- What specs/Whole speaks of is there, and leaves one answer. In every choice of parts each part is the value of a state in the phase Down, and where it has a
-- candidate it can give its place to the parts of its candidates (`choice_goes_on`), and to nothing else (`split_unique`). Every choice can be run to its
-- close, also by a run that omits (`runs_exist`): there are budgets that close a part (`closing_budgets`). And all choices, however they are run, hand out
-- the same (`whole_same`).
--
-- In order: an answer of end closes a part; one list of answers; a part, split and closed; any choice.
--
-- Pins, which nothing else cites: `choice_goes_on`, `split_unique`, `runs_exist`, `whole_same`.
use mathlib.Core.Path.{◌≡◌, refl, sym, ap, ◌∙◌, subst}
use mathlib.Core.Logic.{◌≢◌}
use mathlib.Core.Bool.{Bool, true, false, ◌||◌}
use mathlib.Core.List.Memᴰ
use mathlib.Core.List.{List, [], ◌∷◌, ◌++◌, map, Memᴰ}
use Prim.Native.Nat.{ℕ, suc, ◌-◌}
use lib.ListN.{length}
use Rattle.basics.proofs.Clash.{clash}
use Rattle.table.specs.declared.Table.{Table}
use Rattle.table.specs.Tables.{padded}
use Rattle.rules.specs.Sequences.{All}
use Rattle.rules.specs.Machine.{Down, at}
use Rattle.rules.specs.Calls.{end, Call, calls_by}
use Rattle.rules.proofs.Sequences.{All_get}
use Rattle.lists.specs.Lists.{Side}
use Rattle.lists.specs.OnTable.{hand_out, ReachedOn}
use Rattle.conflicts.specs.Omitting.{keeps_of}
use Rattle.parts.specs.Parts.{extended, split_at}
use Rattle.parts.proofs.Ends.{part_ends, part_keeping_ends}
use Rattle.parts.proofs.Joining.{part_unique}
use Rattle.runs.specs.Paused.{Value}
use Rattle.runs.specs.Calling.{Step, told, held, value_refusal, PausedAt}
use Rattle.runs.specs.Omitting.{moves_of, CallsEither}
use Rattle.runs.proofs.Demands.{Started, Starts, calls_made, told_answer}
use Rattle.split.proofs.PartRuns.{calls_unique}
use Rattle.split.specs.Entries.{next_picks}
use Rattle.split.specs.Listing.{is_closed, handed_over}
use Rattle.split.specs.Whole.{PartsOf, SplitInto, Choice, replaced, ClosedRun, EachClosed, sets_of_all, ListsWhole}
use Rattle.split.proofs.Answers.{candidates_made, part_made}
use Rattle.split.proofs.Whole.{numbers_padded, part_value, split-values, IsPart, choice-parts}

-- ---- an answer of end closes every part
or_true : (b : Bool) → (b || true) ≡ true
or_true true = refl
or_true false = refl

end_closes : (v : Value) (rs : List Step) (r : Step) → Memᴰ r rs → r.answer ≡ end → is_closed v rs ≡ true
end_closes v [] r m d = elim m [ ]
end_closes v (x ∷ rs) r (Memᴰ.head e) d = let a : x.answer ≡ end = sym (ap (λ (y : Step). y.answer) e) ∙ d in rw a
end_closes v (x ∷ rs) r (Memᴰ.tail m) d = rw (end_closes v rs r m d, or_true)

-- ---- a part w
module _ (side : Table → Side) (w : Value) (h : IsPart side w) where
  abbrev t : Table
  t = w.table

  abbrev s : Side
  s = side t

  abbrev o : List ℕ
  o = held side w

  abbrev q : List ℕ
  q = h.picks

  abbrev g : Started side t w.order
  g = h.starts

  abbrev r : ReachedOn s o (at q Down)
  r = h.stands.reached

  -- its value, and that of a part of it
  abbrev value : List ℕ → Value
  value = part_value side w g

  from_value : (P : Value → Type 0) → P (value q) → P w
  from_value P x = subst P (sym h.stands.stands) x

  -- ---- the parts of its candidates
  abbrev next : List ℕ
  next = next_picks side w q

  parts_made : (k : List ℕ) → ((i : ℕ) → Memᴰ i k → Memᴰ i next) → PartsOf side (value q) (map suc k) (map value (extended q k))
  parts_made [] m = tt
  parts_made (i ∷ k) m = (
    part_made side t w.order w.omit g.passed q r i (m i (Memᴰ.head refl)),
    parts_made k (λ j n. m j (Memᴰ.tail n)),
  )

  split_made : next ≢ [] → SplitInto side (value q) (map value (extended q next))
  split_made n = record {
    picks = padded (map suc next);
    found = candidates_made side t w.order w.omit g.passed q r;
    parts = subst (λ (l : List ℕ). PartsOf side (value q) l (map value (extended q next))) (sym (numbers_padded next (64 - length (map suc next))))
        (parts_made next (λ i m. m));
    some = go next n;
  }
    where
      go : (k : List ℕ) → k ≢ [] → map value (extended q k) ≢ []
      go [] d e = d refl
      go (i ∷ k) d e = clash cc

  split_exists : next ≢ [] → (ws : List Value) × SplitInto side w ws
  split_exists n = (map value (extended q next), from_value (λ u. SplitInto side u (map value (extended q next))) (split_made n))

  pub split_unique : (ws us : List Value) → SplitInto side w ws → SplitInto side w us → ws ≡ us
  split_unique ws us x y = is ws x ∙ sym (is us y)
    where
      is : (ws : List Value) → SplitInto side w ws → ws ≡ map value (split_at s o q)
      is ws d = split-values side w g q r ws (subst (λ (u : Value). SplitInto side u ws) h.stands.stands d)

  -- ---- calls that close it
  ends : (omit : Bool) → (bs : List ℕ) × (c : Call) × Memᴰ c (calls_by (moves_of t s o omit) (hand_out s) bs (at q Down)) × (c.answer ≡ end)
  ends false = part_ends t s g.fair o g.arranged q r
  ends true = part_keeping_ends t s g.fair o g.arranged q r (keeps_of t)

  abbrev tell : Call → Step
  tell c = told t s w.order w.omit c

  abbrev answers : List ℕ → List Step
  answers bs = map tell (calls_by (moves_of t s o w.omit) (hand_out s) bs (at q Down))

  answered : (bs : List ℕ) → CallsEither side w bs (answers bs)
  answered bs = from_value (λ u. CallsEither side u bs (answers bs)) (calls_made side t w.order w.omit g.passed (at q Down) r bs)

  pub closing_budgets : (bs : List ℕ) × ((rs : List Step) → CallsEither side w bs rs → is_closed w rs ≡ true)
  closing_budgets =
      let (bs, c, m, e) = ends w.omit in (
        bs,
        λ rs k.
            end_closes w rs (tell c)
            (subst (λ (l : List Step). Memᴰ (tell c) l) (calls_unique side w bs (answers bs) rs (answered bs) k) (Memᴰ.map tell m))
            (told_answer t s w.order w.omit c.answer c.moves c.next ∙ e),
      )

  closed_run : (rs : List Step) × ClosedRun side w rs
  closed_run =
      let (bs, close) = closing_budgets in
      (answers bs, record { budgets = bs; calls = answered bs; closed = close (answers bs) (answered bs) })

-- ---- any choice
runs_made : (side : Table → Side) (vs : List Value) → All (IsPart side) vs → (rss : List (List Step)) × EachClosed side vs rss
runs_made side [] h = ([], tt)
runs_made side (w ∷ vs) h =
    let x = closed_run side w h.0 in
    let y = runs_made side vs h.1 in
    (x.0 ∷ y.0, (x.1, y.1))

module _ (side : Table → Side) (v : Value) (starts : Starts side v) (ok : value_refusal side v ≡ 0) (p : List ℕ) (h : PausedAt side v (at p Down)) where
  pub runs_exist : (vs : List Value) → Choice side v vs → (rss : List (List Step)) × EachClosed side vs rss
  runs_exist vs k = runs_made side vs (choice-parts side v (starts ok) p h k)

  -- a part of a choice, and the choice where it is split, which it can be where it has a candidate
  pub choice_goes_on : (b c : List Value) (w : Value) → Choice side v (b ++ (w ∷ c))
      → (q : List ℕ) × PausedAt side w (at q Down) × (next_picks side w q ≢ [] → (ws : List Value) × SplitInto side w ws × Choice side v (b ++ (ws ++ c)))
  choice_goes_on b c w k =
      let x = All_get (IsPart side) (Memᴰ.append_right b (Memᴰ.head refl)) (choice-parts side v (starts ok) p h k) in (
        x.picks,
        x.stands,
        λ n. let (ws, d) = split_exists side w x n in (ws, d, replaced b c ws w k d),
      )

  pub whole_same : ListsWhole side v → (vs us : List Value) → Choice side v vs → Choice side v us
      → (rss qss : List (List Step)) → EachClosed side vs rss → EachClosed side us qss → sets_of_all vs rss ≡ sets_of_all us qss
  whole_same whole vs us a b rss qss c d =
      let x = whole ok p h vs a rss c in
      let y = whole ok p h us b qss d in
      x.handed ∙ ap (handed_over v.table v.omit)
      (part_unique v.table (side v.table) (held side v) p x.list y.list x.listed y.listed) ∙ sym y.handed
