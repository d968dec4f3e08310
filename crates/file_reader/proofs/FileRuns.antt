-- Lines behind the size line, one after the other. `FineRun`: lines without a fault, behind the entries es. It is
-- `Fine` (`run_fine`, `fine_run`), and the lines of any body are such a run or reach a first fault (`run_or_fault`).
-- No reader enters here.
use Prim.Native.Nat.{ℕ, suc, ◌≤◌, ◌<◌}
use mathlib.Core.Path.{◌≡◌, refl, sym, ap, subst, ◌∙◌}
use mathlib.Core.Logic.{◌⊎◌, inl, inr}
use mathlib.Core.List.Memᴰ
use mathlib.Core.List.{
  List,
  [],
  ◌∷◌,
  ◌++◌,
  append_assoc,
  Memᴰ,
}
use native.Mathlib.Omega.{arith}
use native.Mathlib.Decide.{ℕ_discrete, dec_lt}
use lib.ListN.{length, length-append}
use lib.IntN.{ℤ}
use Rattle.table.specs.declared.Gauge.{Gauge}
use Rattle.table.specs.declared.Case.{Case}
use Rattle.refusals.specs.declared.Refusal.{Refusal}
use Rattle.file_kinds.specs.declared.EntryLine.{EntryLine}
use Rattle.file_kinds.specs.declared.EntryLine.TheVariants.{Entry, Skip as skip_entry, Bad as bad_entry}
use Rattle.file_kinds.specs.Kinds.{entry_line}
use Rattle.file_reader.specs.Files.{
  Heading,
  Named,
  name,
  Lists,
  lists_none,
  lists_blank,
  lists_entry,
  Names,
  Distinct,
  once_none,
  once_more,
  Fine,
  EntryFault,
  malformed,
  repeated,
  too_many,
}
use Rattle.file_text.specs.Texts.{Text}
use Rattle.file_kinds.proofs.LineWords.{blank_line, entry_line_lem, bad_entry_lem}

-- a line behind the size line, as crate `file_kinds` judges it, and the entries that lines name by that
abbrev pub judge : Heading → Text → EntryLine
judge h t = entry_line h.kind h.gauges h.cases t

abbrev pub naming : Gauge → Case → ℤ → Named
naming g c v = name g.0 c.0 v

abbrev pub name_in : EntryLine → List Named
name_in skip_entry = []
name_in (Entry g c v) = naming g c v ∷ []
name_in (bad_entry why) = []

unfoldable pub named : Heading → List Text → List Named
named h [] = []
named h (t ∷ ts) = name_in (judge h t) ++ named h ts

pub data FineRun (h : Heading) : List Named → List Text → Type 0 where
  end : {es : List Named} → FineRun h es []
  skip : {es : List Named} {t : Text} {ts : List Text} → judge h t ≡ skip_entry → FineRun h es ts → FineRun h es (t ∷ ts)
  take : {es : List Named} {t : Text} {ts : List Text} {g : Gauge} {c : Case} {v : ℤ} → judge h t ≡ Entry g c v → ¬ Names es g.0 c.0
      → length es < h.count → FineRun h (es ++ naming g c v ∷ []) ts → FineRun h es (t ∷ ts)

-- ---- entries
-- equal entries have equal parts
same_gauge : {a b : Named} → a ≡ b → a.gauge ≡ b.gauge
same_gauge e = ap (λ (x : Named). x.gauge) e

same_case : {a b : Named} → a ≡ b → a.case ≡ b.case
same_case e = ap (λ (x : Named). x.case) e

-- what is named stays so
pub names_left : {g c : ℕ} (es fs : List Named) → Names es g c → Names (es ++ fs) g c
names_left es fs (v, m) = (v, Memᴰ.append_left fs m)

names_right : {g c : ℕ} (es : List Named) {fs : List Named} → Names fs g c → Names (es ++ fs) g c
names_right es (v, m) = (v, Memᴰ.append_right es m)

pub names_last : (es : List Named) (e : Named) → Names (es ++ e ∷ []) e.gauge e.case
names_last es e = names_right es (e.value, Memᴰ.head refl)

-- what one more entry names
pub names_more : {g c : ℕ} (es : List Named) (e : Named) → Names (es ++ e ∷ []) g c → Names es g c ⊎ ((g ≡ e.gauge) × (c ≡ e.case))
names_more {g} {c} es e (v, m) = go (Memᴰ.append_cases es m)
  where
    go : Memᴰ (name g c v) es ⊎ Memᴰ (name g c v) (e ∷ [])
        → Names es g c ⊎ ((g ≡ e.gauge) × (c ≡ e.case))
    go (inl n) = inl (v, n)
    go (inr n) = last (Memᴰ.cases_cons n)
      where
        last : (name g c v ≡ e) ⊎ Memᴰ (name g c v) [] → Names es g c ⊎ ((g ≡ e.gauge) × (c ≡ e.case))
        last (inl p) = inr (same_gauge p, same_case p)
        last (inr n) = absurd (Memᴰ.not-nil n)

-- whether a gauge and a case are named
names_dec : (g c : ℕ) (es : List Named) → Dec (Names es g c)
names_dec g c [] = no (λ n. Memᴰ.not-nil n.1)
names_dec g c (e ∷ es) = go (ℕ_discrete g e.gauge) (ℕ_discrete c e.case) (names_dec g c es)
  where
    apart : ¬ ((g ≡ e.gauge) × (c ≡ e.case)) → ¬ Names es g c → ¬ Names (e ∷ es) g c
    apart n m (v, k) = at (Memᴰ.cases_cons k)
      where
        at : (name g c v ≡ e) ⊎ Memᴰ (name g c v) es → ⊥
        at (inl p) = n (same_gauge p, same_case p)
        at (inr k) = m (v, k)

    go : Dec (g ≡ e.gauge) → Dec (c ≡ e.case) → Dec (Names es g c) → Dec (Names (e ∷ es) g c)
    go p q (yes (v, m)) = yes (v, Memᴰ.tail m)
    go (yes p) (yes q) (no m) = yes (e.value, Memᴰ.head (λ i. record { gauge = p i; case = q i; value = e.value }))
    go (yes p) (no q) (no m) = no (apart (λ x. q x.1) m)
    go (no p) q (no m) = no (apart (λ x. p x.0) m)

-- ---- distinct entries
-- an entry that is not named yet, behind distinct ones
distinct_more : (es : List Named) (e : Named) → Distinct es → ¬ Names es e.gauge e.case → Distinct (es ++ e ∷ [])
distinct_more [] e d n = once_more (λ m. Memᴰ.not-nil m.1) once_none
distinct_more (x ∷ es) e (once_more p d) n = once_more out (distinct_more es e d (λ m. n (m.0, Memᴰ.tail m.1)))
  where
    out : ¬ Names (es ++ e ∷ []) x.gauge x.case
    out m = go (names_more es e m)
      where
        go : Names es x.gauge x.case ⊎ ((x.gauge ≡ e.gauge) × (x.case ≡ e.case)) → ⊥
        go (inl m) = p m
        go (inr (q, r)) = n (x.value, Memᴰ.head (λ i. record { gauge = sym q i; case = sym r i; value = x.value }))

-- an entry among distinct ones is not named ahead of itself
distinct_front : (es : List Named) (e : Named) (fs : List Named) → Distinct (es ++ e ∷ fs) → ¬ Names es e.gauge e.case
distinct_front [] e fs d m = Memᴰ.not-nil m.1
distinct_front (x ∷ es) e fs (once_more p d) (v, m) = go (Memᴰ.cases_cons m) (distinct_front es e fs d)
  where
    go : (name e.gauge e.case v ≡ x) ⊎ Memᴰ (name e.gauge e.case v) es
        → ¬ Names es e.gauge e.case → ⊥
    go (inl q) ih =
        p (e.value, Memᴰ.append_right es (Memᴰ.head (λ i. record { gauge = sym (same_gauge q) i; case = sym (same_case q) i; value = e.value })))
    go (inr n) ih = ih (v, n)

-- ---- runs
-- one more entry, and the rest
pub snoc : (es fs : List Named) (e : Named) → es ++ e ∷ fs ≡ (es ++ e ∷ []) ++ fs
snoc es fs e = sym (append_assoc es (e ∷ []) fs)

pub append_nil : (es : List Named) → es ++ [] ≡ es
append_nil [] = refl
append_nil (e ∷ es) = ap (λ (x : List Named). e ∷ x) (append_nil es)

pub snoc_length : (es : List Named) (e : Named) → length (es ++ e ∷ []) ≡ suc (length es)
snoc_length es e = simp length-append (omega arith)

-- what is named behind a line
pub named_skip : (h : Heading) (t : Text) (ts : List Text) → judge h t ≡ skip_entry → named h (t ∷ ts) ≡ named h ts
unfolding named
named_skip h t ts p = rw (p, named)

pub named_take : (h : Heading) (t : Text) (ts : List Text) (g : Gauge) (c : Case) (v : ℤ) → judge h t ≡ Entry g c v
    → named h (t ∷ ts) ≡ naming g c v ∷ named h ts
unfolding named
named_take h t ts g c v p = rw (p, named)

pub named_none : (h : Heading) → named h [] ≡ []
unfolding named
named_none h = refl

-- lines that name entries name these
pub lists_named : (h : Heading) (ts : List Text) (es : List Named) → Lists h ts es → named h ts ≡ es
lists_named h [] es lists_none = named_none h
lists_named h (t ∷ ts) es (lists_blank b l) =
    named_skip h t ts ((blank_line h.kind h.gauges h.cases t).1 b) ∙ lists_named h ts es l
lists_named h (t ∷ ts) es (lists_entry {es = fs} {g} {c} {v} i l) =
    named_take h t ts (record { 0 = g }) (record { 0 = c }) v
    ((entry_line_lem h.kind h.gauges h.cases t (record { 0 = g }) (record { 0 = c }) v).1 i)
    ∙ ap (λ (x : List Named). name g c v ∷ x) (lists_named h ts fs l)

-- lines whose entries are distinct and not too many are a run
pub fine_run : (h : Heading) (es : List Named) (ts : List Text) (fs : List Named) → Lists h ts fs → Distinct (es ++ fs) → length (es ++ fs) ≤ h.count
    → FineRun h es ts
fine_run h es [] fs lists_none d n = end
fine_run h es (t ∷ ts) fs (lists_blank b a) d n = skip ((blank_line h.kind h.gauges h.cases t).1 b) (fine_run h es ts fs a d n)
fine_run h es (t ∷ ts) fs₀ (lists_entry {es = fs} {g} {c} {v} i a) d n =
    let l = length-append es (name g c v ∷ fs) in
    take {g = record { 0 = g }} {c = record { 0 = c }} {v = v}
    ((entry_line_lem h.kind h.gauges h.cases t (record { 0 = g }) (record { 0 = c }) v).1 i) (distinct_front es (name g c v) fs d) (omega arith)
    (fine_run h (es ++ name g c v ∷ []) ts fs a (rw (snoc es fs (name g c v)) at d) (rw (snoc es fs (name g c v)) at n))

-- what a run after distinct entries gives
record Ran (h : Heading) (es : List Named) (ts : List Text) : Type 0 where
  pub lists : Lists h ts (named h ts)
  pub once : Distinct (es ++ named h ts)
  pub at_most : length (es ++ named h ts) ≤ h.count

run_ran : (h : Heading) (es : List Named) (ts : List Text) → FineRun h es ts → Distinct es → length es ≤ h.count → Ran h es ts
run_ran h es [] end d n =
    record { lists = rw (named_none h) lists_none; once = rw (named_none h, append_nil es) d; at_most = rw (named_none h, append_nil es) n }
run_ran h es (t ∷ ts) (skip p r) d n =
    let ih = run_ran h es ts r d n in
    let q = named_skip h t ts p in
    record {
      lists = rw q (lists_blank ((blank_line h.kind h.gauges h.cases t).0 p) ih.lists);
      once = rw q ih.once;
      at_most = rw q ih.at_most;
    }
run_ran h es (t ∷ ts) (take {g} {c} {v} p m l r) d n =
    let e = naming g c v in
    let q = named_take h t ts g c v p in
    let ih = run_ran h (es ++ e ∷ []) ts r (distinct_more es e d m) (omega (arith, snoc_length es e)) in
    record {
      lists = rw q (lists_entry ((entry_line_lem h.kind h.gauges h.cases t g c v).0 p) ih.lists);
      once = rw (q, snoc es (named h ts) e) ih.once;
      at_most = rw (q, snoc es (named h ts) e) ih.at_most;
    }

pub run_fine : (h : Heading) (ts : List Text) → FineRun h [] ts → Fine h ts (named h ts)
run_fine h ts r =
    let w = run_ran h [] ts r once_none (omega arith) in
    record { lists = w.lists; once = w.once; at_most = w.at_most }

-- the first fault of lines behind the entries es
pub record FirstFault (h : Heading) (es : List Named) (ts : List Text) : Type 0 where
  pub before : List Text
  pub line : Text
  pub behind : List Text
  pub why : Refusal
  pub lines_are : ts ≡ before ++ line ∷ behind
  pub run : FineRun h es before
  pub fault : EntryFault h (es ++ named h before) line why

-- any lines are a run, or have a first fault
pub run_or_fault : (h : Heading) (es : List Named) (ts : List Text) → length es ≤ h.count → FineRun h es ts ⊎ FirstFault h es ts
run_or_fault h es [] n = inl end
run_or_fault h es (t ∷ ts) n =
    go (judge h t) refl (λ k. run_or_fault h es ts k) (λ e k. run_or_fault h (es ++ e ∷ []) ts k)
  where
    here : {why : Refusal} → EntryFault h es t why → FirstFault h es (t ∷ ts)
    here {why} f = record {
      before = [];
      line = t;
      behind = ts;
      why = why;
      lines_are = refl;
      run = end;
      fault = subst (λ (x : List Named). EntryFault h x t why) (sym (ap (λ (y : List Named). es ++ y) (named_none h) ∙ append_nil es)) f;
    }

    passed : judge h t ≡ skip_entry → FineRun h es ts ⊎ FirstFault h es ts → FineRun h es (t ∷ ts) ⊎ FirstFault h es (t ∷ ts)
    passed p (inl r) = inl (skip p r)
    passed p (inr w) =
        inr (record {
          before = t ∷ w.before;
          line = w.line;
          behind = w.behind;
          why = w.why;
          lines_are = ap (λ (x : List Text). t ∷ x) w.lines_are;
          run = skip p w.run;
          fault = rw (named_skip h t w.before p) w.fault;
        })

    taken : (g : Gauge) (c : Case) (v : ℤ) → judge h t ≡ Entry g c v → ¬ Names es g.0 c.0 → length es < h.count
        → FineRun h (es ++ naming g c v ∷ []) ts ⊎ FirstFault h (es ++ naming g c v ∷ []) ts → FineRun h es (t ∷ ts) ⊎ FirstFault h es (t ∷ ts)
    taken g c v p m l (inl r) = inl (take p m l r)
    taken g c v p m l (inr w) =
        inr (record {
          before = t ∷ w.before;
          line = w.line;
          behind = w.behind;
          why = w.why;
          lines_are = ap (λ (x : List Text). t ∷ x) w.lines_are;
          run = take p m l w.run;
          fault = rw (named_take h t w.before g c v p, snoc es (named h w.before) (naming g c v)) w.fault;
        })

    go : (e : EntryLine) → judge h t ≡ e → (length es ≤ h.count → FineRun h es ts ⊎ FirstFault h es ts)
        → ((e : Named) → length (es ++ e ∷ []) ≤ h.count → FineRun h (es ++ e ∷ []) ts ⊎ FirstFault h (es ++ e ∷ []) ts)
        → FineRun h es (t ∷ ts) ⊎ FirstFault h es (t ∷ ts)
    go skip_entry p ih more = passed p (ih n)
    go (bad_entry why) p ih more = inr (here (malformed ((bad_entry_lem h.kind h.gauges h.cases t why).0 p)))
    go (Entry g c v) p ih more = by (names_dec g.0 c.0 es) (dec_lt (length es) h.count)
      where
        by : Dec (Names es g.0 c.0) → Dec (length es < h.count) → FineRun h es (t ∷ ts) ⊎ FirstFault h es (t ∷ ts)
        by (yes m) l = inr (here (repeated ((entry_line_lem h.kind h.gauges h.cases t g c v).0 p) m))
        by (no m) (no l) = inr (here (too_many ((entry_line_lem h.kind h.gauges h.cases t g c v).0 p) m (omega arith)))
        by (no m) (yes l) = taken g c v p m l (more (naming g c v) (omega (arith, snoc_length es (naming g c v))))
