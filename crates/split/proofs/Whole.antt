-- A choice of parts is the paused values of parts that split the part (`choice-splits`; each is one, `choice-parts`); each closed run of one hands out its
-- list, and so all of them, one after the other, what is handed over of the list (`lists_whole`).
--
-- In order: the numbers of an answer's picks; the values of parts; a part split; any choice; the runs.
use mathlib.Core.Path.{◌≡◌, refl, sym, ap, ap₂, ◌∙◌, subst}
use mathlib.Core.List.{List, [], ◌∷◌, ◌++◌, map, map-append, head-eq_of_cons-eq, tail-eq_of_cons-eq}
use mathlib.Core.List.Memᴰ
use mathlib.Core.List.{Memᴰ}
use Prim.Native.Nat.{ℕ, zero, suc, ◌-◌}
use lib.ListN.{length, replicate}
use Rattle.basics.proofs.Clash.{clash}
use Rattle.table.specs.declared.Table.{Table}
use Rattle.refusals.specs.Answers.{Answer}
use Rattle.rules.specs.Sequences.{All}
use Rattle.rules.specs.Machine.{Down, at}
use Rattle.rules.proofs.Sequences.{All_get}
use Rattle.lists.specs.Lists.{Side}
use Rattle.lists.specs.OnTable.{ReachedOn}
use Rattle.parts.specs.Parts.{PartLists, PartList, Splits, joined, extended, split_at, split_by}
use Rattle.parts.proofs.Joining.{joined_part, part_whole}
use Rattle.parts.proofs.Splitting.{splits_itself, splits_more}
use Rattle.runs.specs.Paused.{Value, paused}
use Rattle.runs.specs.Calling.{Step, held, PausedAt}
use Rattle.runs.proofs.Demands.{Started, Starts}
use Rattle.split.specs.Entries.{next_picks}
use Rattle.split.specs.Listing.{handed_over, ListsPart}
use Rattle.split.specs.Whole.{numbers_in, PartsOf, SplitInto, Choice, itself, replaced, EachClosed, sets_of_all, WholeRun, ListsWhole}
use Rattle.split.proofs.PartRuns.{lists_part}
use Rattle.split.proofs.Answers.{handed_joined}

-- ---- the numbers of an answer's picks
numbers_zeros : (n : ℕ) → numbers_in (replicate n 0) ≡ []
numbers_zeros zero = refl
numbers_zeros (suc n) = refl

pub numbers_padded : (k : List ℕ) (n : ℕ) → numbers_in (map suc k ++ replicate n 0) ≡ map suc k
numbers_padded [] n = numbers_zeros n
numbers_padded (i ∷ k) n = ap (λ (l : List ℕ). suc i ∷ l) (numbers_padded k n)

-- ---- a list in pieces, where it is a map of another
record Pieces {A B : Type 0} (f : A → B) (b : List B) (w : B) (c : List B) (ps : List A) : Type 0 where
  front : List A
  here : A
  behind : List A
  is : ps ≡ front ++ (here ∷ behind)
  front_is : b ≡ map f front
  here_is : w ≡ f here
  behind_is : c ≡ map f behind

module _ {A B : Type 0} (f : A → B) (w : B) (c : List B) where
  pieces : (b : List B) (ps : List A) → b ++ (w ∷ c) ≡ map f ps → Pieces f b w c ps
  pieces [] [] e = clash cc
  pieces [] (p ∷ ps) e =
      record { front = []; here = p; behind = ps; is = refl; front_is = refl; here_is = head-eq_of_cons-eq e; behind_is = tail-eq_of_cons-eq e }
  pieces (x ∷ b) [] e = clash cc
  pieces (x ∷ b) (p ∷ ps) e =
      let r = pieces b ps (tail-eq_of_cons-eq e) in record {
        front = p ∷ r.front;
        here = r.here;
        behind = r.behind;
        is = ap (λ (l : List A). p ∷ l) r.is;
        front_is = ap₂ (λ (y : B) (l : List B). y ∷ l) (head-eq_of_cons-eq e) r.front_is;
        here_is = r.here_is;
        behind_is = r.behind_is;
      }

-- w is a part, of a legal table with a preference of it
pub record IsPart (side : Table → Side) (w : Value) : Type 0 where
  pub starts : Started side w.table w.order
  pub picks : List ℕ
  pub stands : PausedAt side w (at picks Down)

-- ---- parts of the part v
module _ (side : Table → Side) (v : Value) (g : Started side v.table v.order) where
  abbrev t : Table
  t = v.table

  abbrev s : Side
  s = side t

  abbrev o : List ℕ
  o = held side v

  -- the value of the part with the picks q
  abbrev pub part_value : List ℕ → Value
  part_value q = paused t v.order v.omit (at q Down)

  -- ---- a part split
  module _ (q : List ℕ) (r : ReachedOn s o (at q Down)) where
    abbrev next : List ℕ
    next = next_picks side v q

    stands : PausedAt side (part_value q) (at q Down)
    stands = record { reached = r; stands = refl }

    parts_are : (k : List ℕ) → ((i : ℕ) → Memᴰ i k → Memᴰ i next) → (ws : List Value) → PartsOf side (part_value q) (map suc k) ws
        → ws ≡ map part_value (extended q k)
    parts_are [] m [] h = refl
    parts_are [] m (u ∷ ws) h = absurd h
    parts_are (i ∷ k) m [] h = absurd h
    parts_are (i ∷ k) m (u ∷ ws) h =
        ap₂ (λ (x : Value) (l : List Value). x ∷ l)
        (ap (λ (a : Answer Value). a.value) (h.0.part g.passed q stands i (m i (Memᴰ.head refl)) refl))
        (parts_are k (λ j n. m j (Memᴰ.tail n)) ws h.1)

    pub split-values : (ws : List Value) → SplitInto side (part_value q) ws → ws ≡ map part_value (split_at s o q)
    split-values ws h = go next (parts_are next (λ i m. m) ws parts)
      where
        named : numbers_in h.picks ≡ map suc next
        named =
            ap (λ (a : Answer (List ℕ)). numbers_in a.value) (h.found.picks g.passed q stands) ∙ numbers_padded next (64 - length (map suc next))

        parts : PartsOf side (part_value q) (map suc next) ws
        parts = subst (λ (l : List ℕ). PartsOf side (part_value q) l ws) named h.parts

        go : (k : List ℕ) → ws ≡ map part_value (extended q k) → ws ≡ map part_value (split_by q k)
        go [] e = absurd (h.some e)
        go (i ∷ k) e = e

  -- ---- any choice
  -- vs are the values of parts that split p
  record OfParts (p : List ℕ) (vs : List Value) : Type 0 where
    picks : List (List ℕ)
    splits : Splits t s o p picks
    are : vs ≡ map part_value picks

  module _ (p : List ℕ) (h : PausedAt side v (at p Down)) where
    split-more : (b c ws : List Value) (w : Value) → OfParts p (b ++ (w ∷ c)) → SplitInto side w ws → OfParts p (b ++ (ws ++ c))
    split-more b c ws w d k = record {
      picks = x.front ++ (split_at s o q ++ x.behind);
      splits = splits_more t s g.fair o g.arranged p x.front q x.behind here;
      are =
          ap₂ (λ (l m : List Value). l ++ m) x.front_is
          (ap₂ (λ (l m : List Value). l ++ m) (split-values q reached ws (subst (λ (y : Value). SplitInto side y ws) x.here_is k)) x.behind_is
          ∙ sym (map-append part_value (split_at s o q) x.behind))
          ∙ sym (map-append part_value x.front (split_at s o q ++ x.behind));
    }
      where
        x : Pieces part_value b w c d.picks
        x = pieces part_value w c b d.picks d.are

        q : List ℕ
        q = x.here

        here : Splits t s o p (x.front ++ (q ∷ x.behind))
        here = subst (Splits t s o p) x.is d.splits

        reached : ReachedOn s o (at q Down)
        reached = All_get (λ (z : List ℕ). ReachedOn s o (at z Down)) (Memᴰ.append_right x.front (Memᴰ.head refl)) here.reached

    choice-splits : {vs : List Value} → Choice side v vs → OfParts p vs
    choice-splits itself =
        record { picks = p ∷ []; splits = splits_itself t s o p h.reached; are = ap (λ (u : Value). u ∷ []) h.stands }
    choice-splits (replaced b c ws w k d) = split-more b c ws w (choice-splits k) d

    are-parts : (picks : List (List ℕ)) → All (λ (q : List ℕ). ReachedOn s o (at q Down)) picks → All (IsPart side) (map part_value picks)
    are-parts [] r = tt
    are-parts (q ∷ picks) r = (record { starts = g; picks = q; stands = stands q r.0 }, are-parts picks r.1)

    pub choice-parts : {vs : List Value} → Choice side v vs → All (IsPart side) vs
    choice-parts k = let d = choice-splits k in subst (All (IsPart side)) (sym d.are) (are-parts d.picks d.splits.reached)

    -- ---- the runs
    record Listed (picks : List (List ℕ)) (rss : List (List Step)) : Type 0 where
      lists : List (List (List ℕ))
      listed : PartLists t s o picks lists
      handed : sets_of_all (map part_value picks) rss ≡ joined (map (handed_over t v.omit) lists)

    runs-list : ((q : List ℕ) → ListsPart side (part_value q)) → (picks : List (List ℕ)) → All (λ (q : List ℕ). ReachedOn s o (at q Down)) picks
        → (rss : List (List Step)) → EachClosed side (map part_value picks) rss → Listed picks rss
    runs-list lists [] r [] e = record { lists = []; listed = tt; handed = refl }
    runs-list lists [] r (rs ∷ rss) e = absurd e
    runs-list lists (q ∷ picks) r [] e = absurd e
    runs-list lists (q ∷ picks) r (rs ∷ rss) e =
        let d = lists q g.passed q (stands q r.0) e.0.budgets rs e.0.calls in
        let l = runs-list lists picks r.1 rss e.1 in record {
          lists = d.list ∷ l.lists;
          listed = (d.listed, l.listed);
          handed = ap₂ (λ (a b : List (List ℕ)). a ++ b) (d.complete e.0.closed) l.handed;
        }

    whole_run : (vs : List Value) → Choice side v vs → (rss : List (List Step)) → EachClosed side vs rss → WholeRun side v p vs rss
    whole_run vs k rss e = record {
      list = joined l.lists;
      listed = listed;
      whole = λ z. part_whole t s o (joined l.lists) (subst (λ (x : List ℕ). PartList t s o x (joined l.lists)) z listed);
      handed = ap (λ (x : List Value). sets_of_all x rss) d.are ∙ l.handed ∙ handed_joined side v v.omit l.lists;
    }
      where
        d : OfParts p vs
        d = choice-splits k

        l : Listed d.picks rss
        l =
            runs-list (λ q. lists_part side (part_value q) (λ _. g)) d.picks d.splits.reached rss
            (subst (λ (x : List Value). EachClosed side x rss) d.are e)

        listed : PartList t s o p (joined l.lists)
        listed = joined_part t s o p d.picks l.lists d.splits l.listed

pub lists_whole : (side : Table → Side) (v : Value) → Starts side v → ListsWhole side v
lists_whole side v starts ok p h vs k rss e = whole_run side v (starts ok) p h vs k rss e
