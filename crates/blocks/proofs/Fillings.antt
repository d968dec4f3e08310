-- Turns one after another are what `Fills` says of a block, and each return of `fill` is what `Filled` says.
--
-- In order: a block so far (`UpTo`), after a turn (`upto_turn`); where it stops it is
-- `Fills` (`stop_on`), and elsewhere it goes on (`going_on`); a turn in which each call hands something
-- out has a file (`some-on`), so the turns reach an end; what `fill` answers.
use mathlib.Core.Path.{◌≡◌, refl, sym, ap, ap₂, ◌∙◌, subst}
use mathlib.Core.Logic.{inl, inr}
use mathlib.Core.Bool.{Bool, true, false}
use mathlib.Core.List.{List, ◌++◌, append_assoc}
use Prim.Native.Nat.{ℕ, ◌+◌, ◌-◌, ◌≤◌, ◌<◌}
use native.Mathlib.Decide.{dec_lt}
use native.Mathlib.Omega.{arith}
use lib.ListN.{length, take, drop, length-append}
use lib.Seq.{take_at, drop-drop, drop-append-add}
use Rattle.table.specs.declared.Table.{Table}
use Rattle.rules.specs.Machine.{State}
use Rattle.lists.specs.Lists.{gauge_side}
use Rattle.lists.specs.OnTable.{ReachedOn}
use Rattle.runs.specs.Paused.{Value, paused, blank_value}
use Rattle.preference.specs.Preferences.{preferred_refusal}
use Rattle.runs.specs.Calling.{arrangement, value_refusal, PausedAt}
use Rattle.blocks.specs.Filling.{longest, Filling, calls, after, text, is_end, is_none, has, Untouched, Stops, Fills, Filled}
use Rattle.blocks.specs.private.Turning.{Checked, placed, Added, Turned, FillsOn}
use Rattle.blocks.proofs.Calls.{none_ends, after_more, text_more, has_more, reached_after}

-- ---- a block so far
abbrev pub going : Value → ℕ → Bool → Filling
going v used over = record { refusal = 0; value = v; used = used; over = over }

-- after n calls, none of which was the last to be made, but for the last where stop says so
pub record UpTo (t : Table) (order : List ℕ) (omit : Bool) (s : State) (before : List ℕ) (n : ℕ) (stop : Bool) (f : Filling) (now : List ℕ) : Type 0 where
  pub sooner : (k : ℕ) → k < n → ¬ Stops t order omit s (length before) k
  pub used : f.used ≡ length (text t order omit n s)
  pub bytes : now ≡ text t order omit n s ++ drop f.used before
  pub value : f.value ≡ paused t order omit (after t order omit n s)
  pub stopped : stop ≡ has is_none (calls t order omit n s)
  pub over : f.over ≡ has is_end (calls t order omit n s)

-- the same for every value that is not refused, as `FillsOn`
abbrev pub UpToOn : Value → List ℕ → Bool → Filling → List ℕ → Type 0
UpToOn v before stop f now =
    value_refusal gauge_side v ≡ 0 → (s : State) → PausedAt gauge_side v s → longest ≤ length before
    → (n : ℕ) × UpTo v.table v.order v.omit s before n stop f now

-- a file more, behind those that are there
bytes_more : (f text before mid now : List ℕ) (used next : ℕ) → used ≡ length f → mid ≡ f ++ drop used before → next ≡ used + length text
    → now ≡ placed mid used text → now ≡ (f ++ text) ++ drop next before
bytes_more f text before mid now used next u m n e =
    e ∙ ap₂ (λ (a b : List ℕ). a ++ (text ++ b)) front rest ∙ sym (append_assoc f text (drop next before))
  where
    front : take used mid ≡ f
    front = ap (take used) m ∙ take_at f (drop used before) used (sym u)

    rest : drop (used + length text) mid ≡ drop next before
    rest =
        ap₂ (λ (k : ℕ) (l : List ℕ). drop (k + length text) l) u m ∙ drop-append-add f (drop used before) (length text)
        ∙ drop-drop (length text) used before ∙ ap (λ (k : ℕ). drop k before) (sym n)

module _ (t : Table) (order : List ℕ) (omit : Bool) (ok : preferred_refusal t t.gauges order ≡ 0) (s : State)
    (reached : ReachedOn (gauge_side t) (arrangement (gauge_side t) order) s) (before : List ℕ) where
  -- where it stops, and where it goes on
  fills_of : (n : ℕ) (stop : Bool) (f : Filling) (now : List ℕ) → f.refusal ≡ 0 → UpTo t order omit s before n stop f now
      → Stops t order omit s (length before) n → Fills t order omit s before f now
  fills_of n stop f now e h z = record {
    accepted = e;
    count = n;
    stops = z;
    sooner = λ k l. h.sooner k (omega arith);
    used = h.used;
    bytes = h.bytes;
    value = h.value;
    over = h.over;
  }

  module _ (n used : ℕ) (v : Value) (mid : List ℕ) (h : UpTo t order omit s before n false (going v used false) mid) (w : Value) (next : ℕ) (stop over : Bool)
      (now : List ℕ) (turn : Turned v mid used w next stop over now) (same : length mid ≡ length before) (room : used + longest ≤ length before) where
    adds : Added t order omit (after t order omit n s) mid used w next stop over now
    adds =
        (subst (λ (y : Value). Turned y mid used w next stop over now) h.value turn).adds ok (after t order omit n s)
        (record { reached = reached_after t order omit n s reached; stands = refl }) (omega (arith, same, room))

    quiet : has is_none (calls t order omit n s) ≡ false
    quiet = sym h.stopped

    -- so many calls more
    upto_turn : UpTo t order omit s before (n + adds.many) stop (going w next over) now
    upto_turn = record {
      sooner = λ k l. sooner k l (dec_lt k n);
      used =
          adds.place ∙ ap (λ (k : ℕ). k + length more) h.used ∙ sym (length-append (text t order omit n s) more)
          ∙ ap length (sym (text_more t order omit n adds.many s));
      bytes =
          bytes_more (text t order omit n s) more before mid now used next h.used h.bytes adds.place adds.bytes
          ∙ ap (λ (y : List ℕ). y ++ drop next before) (sym (text_more t order omit n adds.many s));
      value = adds.value ∙ ap (paused t order omit) (sym (after_more t order omit n adds.many s));
      stopped = adds.stops ∙ sym (has_more t order omit is_none n adds.many s quiet);
      over = adds.ends ∙ sym (has_more t order omit is_end n adds.many s (sym h.over));
    }
      where
        more : List ℕ
        more = text t order omit adds.many (after t order omit n s)

        -- the calls before these, and these
        later : (i : ℕ) → Stops t order omit s (length before) (n + i) → Stops t order omit (after t order omit n s) (length mid - used) i
        later i (inl e) = inl (sym (has_more t order omit is_none n i s quiet) ∙ e)
        later i (inr l) =
            inr (omega (
              arith,
              l,
              h.used,
              ap length (text_more t order omit n i s),
              length-append (text t order omit n s) (text t order omit i (after t order omit n s)),
              same,
              room,
            ))

        sooner : (k : ℕ) → k < n + adds.many → Dec (k < n) → ¬ Stops t order omit s (length before) k
        sooner k l (yes e) = h.sooner k e
        sooner k l (no e) =
            let i : ℕ = k - n in
            let d : k ≡ n + i = omega arith in
            λ z. adds.sooner i (omega arith) (later i (subst (Stops t order omit s (length before)) d z))

-- ---- the returns of `fill_on`, and a turn of its loop, for every value
module _ (v : Value) (before : List ℕ) where
  -- nothing was handed out
  pub stop_on : (stop : Bool) (f : Filling) (now : List ℕ) → f.refusal ≡ 0 → UpToOn v before stop f now → stop ≡ true → FillsOn v before f now
  stop_on stop f now e h o ok s p l =
      let (n, u) = h ok s p l in
      fills_of v.table v.order v.omit ok s p.reached before n stop f now e u (inl (sym u.stopped ∙ o))

  -- something was, so it was no end
  pub going_on : (stop over : Bool) (w : Value) (next : ℕ) (now : List ℕ) → UpToOn v before stop (going w next over) now → stop ≡ false
      → UpToOn v before false (going w next false) now
  going_on stop over w next now h e ok s p l =
      let (n, u) = h ok s p l in
      let none : has is_none (calls v.table v.order v.omit n s) ≡ false = sym u.stopped ∙ e in (
        n,
        record {
          sooner = u.sooner;
          used = u.used;
          bytes = u.bytes;
          value = u.value;
          stopped = sym none;
          over = sym (none_ends (calls v.table v.order v.omit n s) none);
        },
      )

  module _ (u : Value) (used : ℕ) (mid : List ℕ) (h : UpToOn v before false (going u used false) mid) (w : Value) (next : ℕ) (stop over : Bool)
      (now : List ℕ) (turn : Turned u mid used w next stop over now) (same : length mid ≡ length before) (room : used + longest ≤ length before) where
    pub turn_on : UpToOn v before stop (going w next over) now
    turn_on ok s p l =
        let (n, x) = h ok s p l in
        let a = adds v.table v.order v.omit ok s p.reached before n used u mid x w next stop over now turn same room in
        (n + a.many, upto_turn v.table v.order v.omit ok s p.reached before n used u mid x w next stop over now turn same room)

    pub some-on : value_refusal gauge_side v ≡ 0 → (s : State) → PausedAt gauge_side v s → longest ≤ length before → stop ≡ false → used < next
    some-on ok s p l =
        let (n, x) = h ok s p l in
        (adds v.table v.order v.omit ok s p.reached before n used u mid x w next stop over now turn same room).some

-- ---- what `fill` answers
abbrev pub refusing : ℕ → Filling
refusing n = record { refusal = n; value = blank_value; used = 0; over = false }

pub filled_refused : (v : Value) (before : List ℕ) (f : Filling) (n : ℕ) → Checked v n → 0 < n → f ≡ refusing n → Filled v before f before
filled_refused v before f n c l e = record {
  table = λ h. untouched (c.table h);
  value = λ z k. untouched (c.value z k);
  short = λ z s p h. absurd (omega (arith, c.legal z s p));
  fills = λ z s p h. absurd (omega (arith, c.legal z s p));
}
  where
    untouched : {m : ℕ} → n ≡ m → Untouched m before f before
    untouched {m} d = subst (λ (k : ℕ). Untouched k before f before) d (record { says = e; buffer = refl })

pub filled_short : (v : Value) (before : List ℕ) (f : Filling) → Checked v 0 → length before < longest → f ≡ refusing 16 → Filled v before f before
filled_short v before f c l e = record {
  table = λ h. absurd (omega (arith, c.table h));
  value = λ z k. absurd (omega (arith, c.value z k));
  short = λ z s p h. record { says = e; buffer = refl };
  fills = λ z s p h. absurd (omega arith);
}

pub filled_on : (v : Value) (before : List ℕ) (f : Filling) (now : List ℕ) → Checked v 0 → longest ≤ length before → FillsOn v before f now
    → Filled v before f now
filled_on v before f now c l h = record {
  table = λ x. absurd (omega (arith, c.table x));
  value = λ z k. absurd (omega (arith, c.value z k));
  short = λ z s p x. absurd (omega arith);
  fills = h;
}
