-- The reader goes through lines without a fault: what it has gathered is what they name (`State`), and it reaches
-- what comes after them (`run_read`). At the end that is the test (`state_holds`).
use Prim.Native.Nat.{ℕ, suc, ◌+◌, ◌-◌, ◌*◌, ◌^◌, ◌≤◌, ◌<◌}
use mathlib.Core.Path.{◌≡◌, refl, sym, ap, subst, ◌∙◌}
use mathlib.Core.Logic.{◌↔◌, ◌⊎◌, inl, inr}
use mathlib.Core.List.Memᴰ
use mathlib.Core.List.{List, [], ◌∷◌, ◌++◌, map, Memᴰ}
use mathlib.Core.Bool.{Bool, true, false, ◌||◌}
use native.Mathlib.Omega.{arith}
use native.Mathlib.Decide.{ℕ_discrete}
use lib.IntN.{ℤ, pos}
use lib.ListN.{length, length-set, length-replicate}
use lib.Seq.{get_or-set_same, get_or-set_other}
use lib.Dec.{T, eqb→eq}
use borrow.Author.Tests.{ne_eqb, eq-eqb}
use Rattle.sets.specs.Sets.{bit}
use Rattle.sets.proofs.Joins.{bit-join}
use Rattle.sets.proofs.OnePlace.{bit_power, none_in}
use Rattle.sets.proofs.Tests.{or_e}
use Rattle.table.specs.Pairs.{row, Has}
use Rattle.table.specs.Tables.{no_rows}
use Rattle.table.proofs.Places.{by_place_lem}
use Rattle.table.specs.declared.Gauge.{Gauge}
use Rattle.table.specs.declared.Case.{Case}
use Rattle.recorded.specs.Tests.{reading, no_readings}
use Rattle.recorded.specs.declared.Test.{Test}
use Rattle.refusals.specs.Answers.{Answer}
use Rattle.refusals.specs.declared.Refusal.{Refusal}
use Rattle.refusals.specs.declared.Refusal.TheVariants.{PairRepeated, PairCount}
use Rattle.file_text.specs.Lines.{Line}
use Rattle.file_kinds.specs.declared.EntryLine.TheVariants.{Entry, Skip as skip_entry, Bad as bad_entry}
use Rattle.file_kinds.proofs.KindOf.{entry_taken}
use Rattle.file_reader.specs.private.Reading.{accepted, refused_file, has_pair, with_case, add_pair, add_reading, read_entries}
use Rattle.file_reader.specs.Files.{Heading, Named, name, Names, Holds}
use Rattle.file_text.proofs.LinesLaw.{text_of}
use Rattle.file_text.specs.Texts.{Text}
use Rattle.file_reader.specs.private.Stopping.{stop_entries}
use Rattle.file_reader.proofs.Held.{no_row, with_own, with_kept}
use Rattle.file_reader.proofs.FileRuns.{
  judge,
  naming,
  named,
  FineRun,
  end,
  skip,
  take,
  names_left,
  names_more,
  names_last,
  named_skip,
  named_take,
  named_none,
  snoc,
  snoc_length,
  append_nil,
}

pub record In64 (e : Named) : Type 0 where
  pub gauge_low : 1 ≤ e.gauge
  pub gauge_high : e.gauge ≤ 64
  pub case_low : 1 ≤ e.case
  pub case_high : e.case ≤ 64

abbrev place : Named → ℕ
place e = (e.gauge - 1) * 64 + (e.case - 1)

-- rows and readings gathered are those of the entries es, and left are still to come
pub record State (h : Heading) (es : List Named) (left : ℕ) (rows : List ℕ) (vs : List ℤ) : Type 0 where
  pub size : length rows ≡ 64
  pub values : length vs ≡ 4096
  pub to_come : left + length es ≡ h.count
  pub has : (i k : ℕ) → T (bit (row rows i) k) ↔ Names es (suc i) (suc k)
  pub inside : (e : Named) → Memᴰ e es → In64 e
  pub read : (e : Named) → Memᴰ e es → reading vs (place e) ≡ e.value

pub state_none : (h : Heading) → State h [] h.count no_rows no_readings
state_none h = record {
  size = refl;
  values = length-replicate 4096 (pos 0);
  to_come = omega arith;
  has = λ i k. (λ t. absurd (rw (no_row 64 i, none_in k) at t), λ n. absurd (Memᴰ.not-nil n.1));
  inside = λ e m. absurd (Memᴰ.not-nil m);
  read = λ e m. absurd (Memᴰ.not-nil m);
}

-- ---- an entry more
module _ {h : Heading} {es : List Named} {left : ℕ} {rows : List ℕ} {vs : List ℤ} {g : Gauge} {c : Case} {v : ℤ} (s : State h es left rows vs)
    (b : In64 (naming g c v)) (free : ¬ Names es g.0 c.0) where
  abbrev e : Named
  e = naming g c v

  own_row : row (add_pair rows g c) (g.0 - 1) ≡ with_case (row rows (g.0 - 1)) c
  own_row = get_or-set_same rows (g.0 - 1) (with_case (row rows (g.0 - 1)) c) 0 (omega (arith, s.size, b))

  other_row : (i : ℕ) → (i ≡ g.0 - 1 → ⊥) → row (add_pair rows g c) i ≡ row rows i
  other_row i n = get_or-set_other rows (g.0 - 1) i (with_case (row rows (g.0 - 1)) c) 0 n

  -- the number of a place
  at_own : (i k : ℕ) → i ≡ g.0 - 1 → k ≡ c.0 - 1 → Names (es ++ e ∷ []) (suc i) (suc k)
  at_own i k p q =
      let x : g.0 ≡ suc i = omega (arith, b) in
      let y : c.0 ≡ suc k = omega (arith, b) in
      subst (λ (m : ℕ). Names (es ++ e ∷ []) m (suc k)) x (subst (λ (m : ℕ). Names (es ++ e ∷ []) g.0 m) y (names_last es e))

  grown : (i k : ℕ) → Dec (i ≡ g.0 - 1) → T (bit (row (add_pair rows g c) i) k) → Names (es ++ e ∷ []) (suc i) (suc k)
  grown i k (no n) t = names_left es (e ∷ []) ((s.has i k).0 (rw (other_row i n) at t))
  grown i k (yes p) t =
      let r = row rows (g.0 - 1) in
      let u : T (bit (row (add_pair rows g c) (g.0 - 1)) k) = rw p at t in
      let w : T (bit (with_case r c) k) = rw own_row at u in
      let x : T (bit r k || bit (2 ^ (c.0 - 1)) k) = rw (bit-join r (2 ^ (c.0 - 1)) k) at w in
      go (or_e (bit r k) (bit (2 ^ (c.0 - 1)) k) x)
    where
      go : T (bit (row rows (g.0 - 1)) k) ⊎ T (bit (2 ^ (c.0 - 1)) k) → Names (es ++ e ∷ []) (suc i) (suc k)
      go (inl y) = names_left es (e ∷ []) ((s.has i k).0 (rw p y))
      go (inr y) = at_own i k p (eqb→eq k (c.0 - 1) (rw (bit_power (c.0 - 1) k) at y))

  kept : (i k : ℕ) → Dec (i ≡ g.0 - 1) → Names es (suc i) (suc k) ⊎ ((suc i ≡ g.0) × (suc k ≡ c.0)) → T (bit (row (add_pair rows g c) i) k)
  kept i k (no n) (inl m) = rw (other_row i n) ((s.has i k).1 m)
  kept i k (yes p) (inl m) =
      let t = (s.has i k).1 m in
      rw (p, own_row) (with_kept (row rows (g.0 - 1)) c k (rw p at t))
  kept i k d (inr (p, q)) =
      let x : i ≡ g.0 - 1 = omega arith in
      let y : k ≡ c.0 - 1 = omega arith in
      rw (x, y, own_row) (with_own (row rows (g.0 - 1)) c)

  -- places of different entries differ
  apart : (d : Named) → Memᴰ d es → place d ≡ place e → ⊥
  apart d m q =
      let i = s.inside d m in
      let x : d.gauge ≡ g.0 = omega (arith, i, b) in
      let y : d.case ≡ c.0 = omega (arith, i, b) in
      free (subst (λ (n : ℕ). Names es n c.0) x (subst (λ (n : ℕ). Names es d.gauge n) y (d.value, m)))

  state_more : (left ≡ 0 → ⊥) → State h (es ++ e ∷ []) (left - 1) (add_pair rows g c) (add_reading vs g c v)
  state_more n = record {
    size = length-set rows (g.0 - 1) (with_case (row rows (g.0 - 1)) c) ∙ s.size;
    values = length-set vs ((g.0 - 1) * 64 + (c.0 - 1)) v ∙ s.values;
    to_come = omega (arith, s.to_come, snoc_length es e);
    has = λ i k. (grown i k (ℕ_discrete i (g.0 - 1)), λ m. kept i k (ℕ_discrete i (g.0 - 1)) (names_more es e m));
    inside = λ d m. inner d (Memᴰ.append_cases es m);
    read = λ d m. reads d (Memᴰ.append_cases es m);
  }
    where
      inner : (d : Named) → Memᴰ d es ⊎ Memᴰ d (e ∷ []) → In64 d
      inner d (inl m) = s.inside d m
      inner d (inr m) = last (Memᴰ.cases_cons m)
        where
          last : (d ≡ e) ⊎ Memᴰ d [] → In64 d
          last (inl p) = rw p b
          last (inr m) = absurd (Memᴰ.not-nil m)

      reads : (d : Named) → Memᴰ d es ⊎ Memᴰ d (e ∷ []) → reading (add_reading vs g c v) (place d) ≡ d.value
      reads d (inl m) = get_or-set_other vs (place e) (place d) v (pos 0) (apart d m) ∙ s.read d m
      reads d (inr m) = last (Memᴰ.cases_cons m)
        where
          last : (d ≡ e) ⊎ Memᴰ d [] → reading (add_reading vs g c v) (place d) ≡ d.value
          last (inl p) = rw p (get_or-set_same vs (place e) v (pos 0) (omega (arith, s.values, b)))
          last (inr m) = absurd (Memᴰ.not-nil m)

  -- it is not in the rows yet
  pub is_free : has_pair rows g c ≡ false
  is_free = go (bit (row rows (g.0 - 1)) (c.0 - 1)) refl
    where
      go : (t : Bool) → bit (row rows (g.0 - 1)) (c.0 - 1) ≡ t → t ≡ false
      go false p = refl
      go true p =
          let x : suc (g.0 - 1) ≡ g.0 = omega (arith, b) in
          let y : suc (c.0 - 1) ≡ c.0 = omega (arith, b) in
          let m : Names es (suc (g.0 - 1)) (suc (c.0 - 1)) = (s.has (g.0 - 1) (c.0 - 1)).0 (rw p tt) in
          absurd (free (rw (x, y) at m))

-- ---- the reader behind lines
abbrev pub reads : Heading → ℕ → List ℕ → List ℤ → List Line → Answer Test
reads h left rows vs ls = read_entries h.kind h.gauges h.cases left rows vs ls

abbrev pub stops : Heading → ℕ → List ℕ → ℕ → List Line → ℕ
stops h left rows k ls = stop_entries h.kind h.gauges h.cases left rows k ls

-- one line
stop_skip : (h : Heading) (left : ℕ) (rows : List ℕ) (k : ℕ) (l : Line) (ls : List Line) → judge h l.text ≡ skip_entry
    → stops h left rows k (l ∷ ls) ≡ stops h left rows (suc k) ls
unfolding stop_entries
stop_skip h left rows k l ls p = rw (p, stop_entries)

pub stop_bad : (h : Heading) (left : ℕ) (rows : List ℕ) (k : ℕ) (l : Line) (ls : List Line) (why : Refusal) → judge h l.text ≡ bad_entry why
    → stops h left rows k (l ∷ ls) ≡ k
unfolding stop_entries
stop_bad h left rows k l ls why p = rw (p, stop_entries)

module _ (h : Heading) (left : ℕ) (rows : List ℕ) (k : ℕ) (l : Line) (ls : List Line) (g : Gauge) (c : Case) (v : ℤ)
    (p : judge h l.text ≡ Entry g c v) where
  pub stop_repeated : has_pair rows g c ≡ true → stops h left rows k (l ∷ ls) ≡ k
  unfolding stop_entries
  stop_repeated q = rw (p, stop_entries) (rw q)

  pub stop_many : has_pair rows g c ≡ false → left ≡ 0 → stops h left rows k (l ∷ ls) ≡ k
  unfolding stop_entries
  stop_many q z = rw (p, stop_entries) (rw q (rw (eq-eqb left 0 z)))

  stop_take : has_pair rows g c ≡ false → (left ≡ 0 → ⊥) → stops h left rows k (l ∷ ls) ≡ stops h (left - 1) (add_pair rows g c) (suc k) ls
  unfolding stop_entries
  stop_take q n = rw (p, stop_entries) (rw q (rw (ne_eqb left 0 n)))

pub stop_done : (h : Heading) (left : ℕ) (rows : List ℕ) (k : ℕ) → left ≡ 0 → stops h left rows k [] ≡ 0
unfolding stop_entries
stop_done h left rows k z = rw (eq-eqb left 0 z)

pub stop_few : (h : Heading) (left : ℕ) (rows : List ℕ) (k : ℕ) → (left ≡ 0 → ⊥) → stops h left rows k [] ≡ k
unfolding stop_entries
stop_few h left rows k n = rw (ne_eqb left 0 n)

read_skip : (h : Heading) (left : ℕ) (rows : List ℕ) (vs : List ℤ) (l : Line) (ls : List Line) → judge h l.text ≡ skip_entry
    → reads h left rows vs (l ∷ ls) ≡ reads h left rows vs ls
unfolding read_entries
read_skip h left rows vs l ls p = rw (p, read_entries)

pub read_bad : (h : Heading) (left : ℕ) (rows : List ℕ) (vs : List ℤ) (l : Line) (ls : List Line) (why : Refusal) → judge h l.text ≡ bad_entry why
    → reads h left rows vs (l ∷ ls) ≡ refused_file why
unfolding read_entries
read_bad h left rows vs l ls why p = rw (p, read_entries)

module _ (h : Heading) (left : ℕ) (rows : List ℕ) (vs : List ℤ) (l : Line) (ls : List Line) (g : Gauge) (c : Case) (v : ℤ)
    (p : judge h l.text ≡ Entry g c v) where
  pub read_repeated : has_pair rows g c ≡ true → reads h left rows vs (l ∷ ls) ≡ refused_file PairRepeated
  unfolding read_entries
  read_repeated q = rw (p, read_entries) (rw q)

  pub read_many : has_pair rows g c ≡ false → left ≡ 0 → reads h left rows vs (l ∷ ls) ≡ refused_file PairCount
  unfolding read_entries
  read_many q z = rw (p, read_entries) (rw q (rw (eq-eqb left 0 z)))

  read_take : has_pair rows g c ≡ false → (left ≡ 0 → ⊥) → reads h left rows vs (l ∷ ls) ≡ reads h (left - 1) (add_pair rows g c) (add_reading vs g c v) ls
  unfolding read_entries
  read_take q n = rw (p, read_entries) (rw q (rw (ne_eqb left 0 n)))

-- the end
pub read_done : (h : Heading) (left : ℕ) (rows : List ℕ) (vs : List ℤ) → left ≡ 0
    → reads h left rows vs [] ≡ accepted (record { kind = h.kind; gauges = h.gauges.0; cases = h.cases.0; entries = rows; readings = vs })
unfolding read_entries
read_done h left rows vs z = rw (eq-eqb left 0 z)

pub read_few : (h : Heading) (left : ℕ) (rows : List ℕ) (vs : List ℤ) → (left ≡ 0 → ⊥) → reads h left rows vs [] ≡ refused_file PairCount
unfolding read_entries
read_few h left rows vs n = rw (ne_eqb left 0 n)

-- after a run the reader is at the rest of the lines, with what the run names
pub record RanTo (h : Heading) (es : List Named) (left₀ : ℕ) (rows₀ : List ℕ) (vs₀ : List ℤ) (ls rest : List Line) : Type 0 where
  pub left : ℕ
  pub rows : List ℕ
  pub vs : List ℤ
  pub state : State h es left rows vs
  pub same : reads h left₀ rows₀ vs₀ (ls ++ rest) ≡ reads h left rows vs rest
  pub line : (k : ℕ) → stops h left₀ rows₀ k (ls ++ rest) ≡ stops h left rows (length ls + k) rest

pub in_64 : (h : Heading) → h.gauges.0 ≤ 64 → h.cases.0 ≤ 64 → (t : Text) (g : Gauge) (c : Case) (v : ℤ) → judge h t ≡ Entry g c v → In64 (naming g c v)
in_64 h m n t g c v p =
    let b = (entry_taken h.kind h.gauges h.cases t g c v (sym p)).places in
    record { gauge_low = b.gauge_low; gauge_high = omega (arith, b); case_low = b.case_low; case_high = omega (arith, b) }

-- the number of the line behind one line more
next_line : (h : Heading) (left : ℕ) (rows : List ℕ) (n k : ℕ) (rest : List Line) → stops h left rows (n + suc k) rest ≡ stops h left rows (suc n + k) rest
next_line h left rows n k rest = ap (λ (x : ℕ). stops h left rows x rest) (omega arith)

zero_line : (h : Heading) (left : ℕ) (rows : List ℕ) (k : ℕ) (rest : List Line) → stops h left rows k rest ≡ stops h left rows (0 + k) rest
zero_line h left rows k rest = ap (λ (x : ℕ). stops h left rows x rest) (omega arith)

-- one line more ahead of a run
module _ (h : Heading) (l : Line) (ls rest : List Line) (left : ℕ) (rows : List ℕ) (vs : List ℤ) where
  ran_skip : (es : List Named) → judge h l.text ≡ skip_entry → RanTo h es left rows vs ls rest → RanTo h es left rows vs (l ∷ ls) rest
  ran_skip es p w = record {
    left = w.left;
    rows = w.rows;
    vs = w.vs;
    state = w.state;
    same = read_skip h left rows vs l (ls ++ rest) p ∙ w.same;
    line = λ k. stop_skip h left rows k l (ls ++ rest) p ∙ w.line (suc k) ∙ next_line h w.left w.rows (length ls) k rest;
  }

  ran_take : (es : List Named) (g : Gauge) (c : Case) (v : ℤ) → judge h l.text ≡ Entry g c v → has_pair rows g c ≡ false → (left ≡ 0 → ⊥)
      → RanTo h es (left - 1) (add_pair rows g c) (add_reading vs g c v) ls rest → RanTo h es left rows vs (l ∷ ls) rest
  ran_take es g c v p f z w = record {
    left = w.left;
    rows = w.rows;
    vs = w.vs;
    state = w.state;
    same = read_take h left rows vs l (ls ++ rest) g c v p f z ∙ w.same;
    line = λ k. stop_take h left rows k l (ls ++ rest) g c v p f z ∙ w.line (suc k) ∙ next_line h w.left w.rows (length ls) k rest;
  }

ran_end : (h : Heading) (es : List Named) (rest : List Line) (left : ℕ) (rows : List ℕ) (vs : List ℤ) → State h es left rows vs
    → RanTo h es left rows vs [] rest
ran_end h es rest left rows vs s =
    record { left = left; rows = rows; vs = vs; state = s; same = refl; line = λ k. zero_line h left rows k rest }

abbrev Ran : Heading → List Line → List Line → ℕ → List ℕ → List ℤ → List Named → Type 0
Ran h ls rest left rows vs es = RanTo h es left rows vs ls rest

module _ (h : Heading) (m : h.gauges.0 ≤ 64) (n : h.cases.0 ≤ 64) where
  more : (es : List Named) (l : Line) (ls rest : List Line) (left : ℕ) (rows : List ℕ) (vs : List ℤ) (g : Gauge) (c : Case) (v : ℤ)
      → judge h l.text ≡ Entry g c v → ¬ Names es g.0 c.0 → length es < h.count → State h es left rows vs
      → (State h (es ++ naming g c v ∷ []) (left - 1) (add_pair rows g c) (add_reading vs g c v)
      → RanTo h ((es ++ naming g c v ∷ []) ++ named h (map text_of ls)) (left - 1) (add_pair rows g c) (add_reading vs g c v) ls rest)
      → RanTo h (es ++ named h (map text_of (l ∷ ls))) left rows vs (l ∷ ls) rest
  more es l ls rest left rows vs g c v p f k s ih =
      let b = in_64 h m n l.text g c v p in
      let z : (left ≡ 0 → ⊥) = λ z. omega (arith, s.to_come) in
      let e : (es ++ naming g c v ∷ []) ++ named h (map text_of ls) ≡ es ++ named h (map text_of (l ∷ ls)) =
      sym (snoc es (named h (map text_of ls)) (naming g c v))
      ∙ ap (λ (x : List Named). es ++ x) (sym (named_take h l.text (map text_of ls) g c v p)) in
      subst (Ran h (l ∷ ls) rest left rows vs) e
      (ran_take h l ls rest left rows vs ((es ++ naming g c v ∷ []) ++ named h (map text_of ls)) g c v p (is_free s b f) z (ih (state_more s b f z)))

  pub run_read : (es : List Named) (ls rest : List Line) (left : ℕ) (rows : List ℕ) (vs : List ℤ) → FineRun h es (map text_of ls) → State h es left rows vs
      → RanTo h (es ++ named h (map text_of ls)) left rows vs ls rest
  run_read es [] rest left rows vs end s =
      subst (Ran h [] rest left rows vs) (sym (ap (λ (x : List Named). es ++ x) (named_none h) ∙ append_nil es)) (ran_end h es rest left rows vs s)
  run_read es (l ∷ ls) rest left rows vs (skip p r) s =
      subst (Ran h (l ∷ ls) rest left rows vs) (ap (λ (x : List Named). es ++ x) (sym (named_skip h l.text (map text_of ls) p)))
      (ran_skip h l ls rest left rows vs (es ++ named h (map text_of ls)) p (run_read es ls rest left rows vs r s))
  run_read es (l ∷ ls) rest left rows vs (take {g} {c} {v} p f k r) s =
      more es l ls rest left rows vs g c v p f k s
      (λ s'. run_read (es ++ naming g c v ∷ []) ls rest (left - 1) (add_pair rows g c) (add_reading vs g c v) r s')

-- what the state holds is what the test holds
pub state_holds : {h : Heading} {es : List Named} {left : ℕ} {rows : List ℕ} {vs : List ℤ} → State h es left rows vs
    → Holds h es (record { kind = h.kind; gauges = h.gauges.0; cases = h.cases.0; entries = rows; readings = vs })
state_holds {h} {es} {left} {rows} {vs} s = record {
  kind_is = refl;
  gauges_are = refl;
  cases_are = refl;
  entries_are = λ g c. (by_place_lem rows (Names es) (λ i k t. (s.has i k).0 t) g c, back g c);
  readings_are = s.read;
}
  where
    back : (g c : ℕ) → Names es g c → Has rows g c
    back g c (v, m) =
        let b = s.inside (name g c v) m in
        let x : g ≡ suc (g - 1) = omega (arith, b) in
        let y : c ≡ suc (c - 1) = omega (arith, b) in
        let w : Names es (suc (g - 1)) (suc (c - 1)) = subst (λ (a : ℕ). Names es a (suc (c - 1))) x (subst (λ (a : ℕ). Names es g a) y (v, m)) in
        record { gauge = b.gauge_low; case = b.case_low; set = (s.has (g - 1) (c - 1)).1 w }
