-- The calls of a batch, one after the other, from a held spot: what is behind (`Sofar`), one call that hands out (`turn-next`), and what the batch comes
-- to after a call that does not (`turn-stop`), or once the room is full (`turn-full`).
use mathlib.Core.Path.{◌≡◌, refl, sym, ap, ap₂, ◌∙◌, subst}
use mathlib.Core.Bool.{Bool, true, false}
use mathlib.Core.List.{List, [], ◌∷◌, ◌++◌, append-nil, append_assoc}
use Prim.Native.Nat.{ℕ, suc, ◌+◌, ◌-◌, ◌≤◌, ◌<◌, min}
use native.Mathlib.Omega.{arith}
use lib.ListN.{length, take, get_or, length-append}
use lib.Seq.{sets as stored, length-sets, length-take-le}
use Rattle.basics.proofs.Clash.{clash}
use Rattle.table.specs.Tables.{padded}
use Rattle.transpose.specs.Transposing.{transpose}
use Rattle.transpose.proofs.Transposition.{length-transpose}
use Rattle.transpose.specs.Places.{places}
use Rattle.transpose.specs.Putting.{PutsIn}
use Rattle.rules.specs.Machine.{State, Move}
use Rattle.rules.specs.Calls.{Call, most_budget}
use Rattle.rules.proofs.Calls.{within_by}
use Rattle.runs.specs.Calling.{}
use Rattle.runs.specs.private.Working.{stop_reply}
use Rattle.runs.specs.Batches.{Tale, tale, behind, onward, batch_by, joined, Ending}
use Rattle.runs.specs.private.Listing.{stop_ending}
use Rattle.table.proofs.Padding.{pad_length, pad_get_or}
use Rattle.table.proofs.Places.{row_past}
use Rattle.sets.proofs.Tabulated.{length-tabulate, get_or-tabulate}
use Rattle.preference.specs.Placing.{row_numbered, gathered}
use Rattle.runs.specs.private.Working.{Holds, state_of, ComesOut, Advanced}
use Rattle.runs.specs.declared.engine.Report.{Report}
use Rattle.runs.specs.private.Listing.{turned_rows, numbered_rows, ladder_of, ladder_for, Puts, Hands, words_of, written_in, Lists, Sofar}
use Rattle.runs.specs.declared.engine.Stop.{Stop}
use Rattle.runs.specs.declared.engine.Stop.TheVariants.{HandedOut, Spent, End}
use Rattle.runs.proofs.Padding.{take-padded}
use Rattle.runs.proofs.SideCalls.{NotHanded}
use Rattle.runs.proofs.Carrying.{carry_most}
use Rattle.runs.proofs.Words.{stored_append, joined_snoc, length_snoc_list, words_more}

-- ---- a ladder put at a place
module _ (c pl : List ℕ) (n g : ℕ) (before : List ℕ) (at : ℕ) (now rows : List ℕ) (size : length rows ≡ 64) (few : g ≤ 64)
    (w : Puts before at (take g rows) now) where
  hands_is : (t p : Bool) → rows ≡ turned_rows t n g (numbered_rows p pl n c) → Hands t p c pl n g before at now
  unfolding ladder_of
  hands_is t p e = record {
    words = w.words ∙ ap (λ (l : List ℕ). stored before at (take g l)) e;
    size = ap (λ (l : List ℕ). length (take g l)) (sym e) ∙ length-take-le g rows (omega (arith, size));
  }

  -- with the flag as it was found
  pub hands_as : (t p t' : Bool) → t ≡ t' → rows ≡ turned_rows t' n g (numbered_rows p pl n c) → Hands t p c pl n g before at now
  hands_as t p t' a e = rw a (hands_is t' p e)

-- ---- by number again, row by row
module _ (n : ℕ) (rows numbers : List ℕ) where
  gathered_few : length (gathered n rows numbers) ≡ min n 64
  unfolding gathered
  gathered_few = length-tabulate (λ i. row_numbered rows (get_or numbers i 0)) (min n 64)

  pub gathered_long : length (padded (gathered n rows numbers)) ≡ 64
  gathered_long = pad_length (gathered n rows numbers) (omega (arith, gathered_few))

  pub numbered_row : (i : ℕ) → i < 64 → i < n → row_numbered rows (get_or numbers i 0) ≡ get_or (padded (gathered n rows numbers)) i 0
  unfolding gathered
  numbered_row i l h =
      sym (pad_get_or (gathered n rows numbers) i ∙ get_or-tabulate (λ i. row_numbered rows (get_or numbers i 0)) (min n 64) i (omega arith))

  pub numbered_past : (i : ℕ) → n ≤ i → 0 ≡ get_or (padded (gathered n rows numbers)) i 0
  numbered_past i h = sym (pad_get_or (gathered n rows numbers) i ∙ row_past (gathered n rows numbers) i (omega (arith, gathered_few)))

-- turned straight into the buffer
module _ (n g : ℕ) (before : List ℕ) (at : ℕ) (now rows : List ℕ) (room : at + g ≤ length before) (few : g ≤ 64)
    (w : PutsIn (transpose (min g 64) (places n rows)) before at now) where
  turned_size : length (transpose (min g 64) (places n rows)) ≡ g
  turned_size = length-transpose (min g 64) (places n rows) ∙ omega arith

  turned_words : now ≡ stored before at (transpose (min g 64) (places n rows))
  turned_words = w.fits (omega (arith, turned_size))

  turns_is : (c pl : List ℕ) (p : Bool) → rows ≡ numbered_rows p pl n c → Hands true p c pl n g before at now
  unfolding ladder_of
  turns_is c pl p e = record { words = turned_words ∙ ap (stored before at) ladder; size = ap length (sym ladder) ∙ turned_size }
    where
      ladder : transpose (min g 64) (places n rows) ≡ take g (padded (transpose (min g 64) (places n (numbered_rows p pl n c))))
      ladder =
          sym (take-padded (transpose (min g 64) (places n rows)) g (sym turned_size))
          ∙ ap (λ (l : List ℕ). take g (padded (transpose (min g 64) (places n l)))) e

  -- with the flag as it was found
  pub turns_as : (c pl : List ℕ) (t p : Bool) → t ≡ true → rows ≡ numbered_rows p pl n c → Hands t p c pl n g before at now
  turns_as c pl t p a e = rw a (turns_is c pl p e)

-- ---- calls
module _ (mv : State → Move) (out : List ℕ → List ℕ) where
  -- a call makes at most its budget of moves
  comes_most : (b : ℕ) (x : State) (o : Stop) (m : ℕ) (y : State) → ComesOut mv b x o m y → m ≤ b
  comes_most b x o m y e = subst (λ (n : ℕ). n ≤ b) (ap (λ (c : Call). c.moves) (e out)) (carry_most mv out b x)

  module _ (writing : Bool) (g k b : ℕ) (x y : State) (before now : List ℕ) (l j place : ℕ) (h : Sofar writing mv out g k b x y before now l j place) where
    room_most : j ≤ k
    room_most = omega (arith, h.counted)

    room-behind : k - j ≡ length h.sets
    room-behind = omega (arith, h.counted)

    same_size : length now ≡ length before
    same_size = ap length h.buffer ∙ size writing
      where
        size : (w : Bool) → length (written_in w before (joined h.sets)) ≡ length before
        size true = length-sets before 0 (joined h.sets)
        size false = refl

    place-fits : writing ≡ true → 0 < j → place + g ≤ length before
    place-fits w p = omega (arith, h.room w, words_more g j p)

    pub place-room : writing ≡ true → 0 < j → place + g ≤ length now
    place-room w p = omega (arith, place-fits w p, same_size)

    module _ (few : b ≤ most_budget) (p : 0 < j) (oc : Stop) (m : ℕ) (z : State) (e : ComesOut mv l y oc m z) where
      less : m ≤ l
      less = comes_most l y oc m z e

      -- what the next call answers
      called : batch_by mv out j l y ≡ onward mv out (batch_by mv out (j - 1)) l (stop_reply oc (out z.picks)) m z
      called =
          let d : j ≡ suc (j - 1) = omega arith in
          ap (λ (i : ℕ). batch_by mv out i l y) d
          ∙ ap (λ (c : Call). onward mv out (batch_by mv out (j - 1)) l c.answer c.moves c.next)
          (within_by mv out l y (omega (arith, h.most)) ∙ e out)

      behind_more : (w : List ℕ) (t : Tale) → behind h.sets (b - l) (behind (w ∷ []) m t) ≡ behind (h.sets ++ (w ∷ [])) (b - (l - m)) t
      behind_more w t =
          let d : (b - l) + (m + t.moves) ≡ (b - (l - m)) + t.moves = omega (arith, less, h.most) in
          ap₂ (λ (s : List (List ℕ)) (i : ℕ). tale t.ending s i t.next) (sym (append_assoc h.sets (w ∷ []) t.sets)) d

      -- one that hands a set out: where it is written, and where it is not
      module _ (q : oc ≡ HandedOut) where
        next-onward : batch_by mv out k b x ≡ behind (h.sets ++ (out z.picks ∷ [])) (b - (l - m)) (batch_by mv out (j - 1) (l - m) z)
        next-onward =
            h.onward
            ∙ ap (behind h.sets (b - l)) (called
            ∙ ap (λ (o : Stop). onward mv out (batch_by mv out (j - 1)) l (stop_reply o (out z.picks)) m z) q)
            ∙ behind_more (out z.picks) (batch_by mv out (j - 1) (l - m) z)

        next-once : k ≡ 1 → j - 1 ≡ 0 → ComesOut mv b x HandedOut (b - (l - m)) z
        next-once one none =
            let (u, v) = h.first (omega (arith, one, none)) in
            let d : m ≡ b - (l - m) = omega (arith, less, u) in
            subst (λ (a : ℕ). ComesOut mv b x HandedOut a z) d
            (subst (λ (o : Stop). ComesOut mv b x o m z) q (subst (λ (a : ℕ). ComesOut mv a x oc m z) u (subst (λ (a : State). ComesOut mv l a oc m z) v e)))

        next-with : (place' : ℕ) (now' : List ℕ) → (writing ≡ true → place' ≡ length (joined (h.sets ++ (out z.picks ∷ []))))
            → (writing ≡ true → place' + words_of g (j - 1) ≤ length before) → now' ≡ written_in writing before (joined (h.sets ++ (out z.picks ∷ [])))
            → Sofar writing mv out g k b x z before now' (l - m) (j - 1) place'
        next-with place' now' placed room buffer = record {
          sets = h.sets ++ (out z.picks ∷ []);
          most = omega (arith, h.most);
          onward = next-onward;
          counted = omega (arith, h.counted, length_snoc_list h.sets (out z.picks));
          placed = placed;
          room = room;
          buffer = buffer;
          first = λ d. absurd (omega (arith, d, p, room_most));
          once = next-once;
        }

        turn-next : writing ≡ true → (now' : List ℕ) → now' ≡ stored now place (out z.picks) → length (out z.picks) ≡ g
            → Sofar writing mv out g k b x z before now' (l - m) (j - 1) (place + g)
        turn-next w now' put size =
            next-with (place + g) now'
            (λ t. ap₂ (λ (a c : ℕ). a + c) (h.placed w) (sym size)
            ∙ sym (ap length (joined_snoc h.sets (out z.picks)) ∙ length-append (joined h.sets) (out z.picks)))
            (λ t. omega (arith, h.room w, words_more g j p))
            (put ∙ ap₂ (λ (u : List ℕ) (i : ℕ). stored u i (out z.picks)) (rw w at h.buffer) d
            ∙ sym (ap (stored before 0) (joined_snoc h.sets (out z.picks)) ∙ stored_append before 0 (joined h.sets) (out z.picks))
            ∙ ap (λ (t : Bool). written_in t before (joined (h.sets ++ (out z.picks ∷ [])))) (sym w))
          where
            d : place ≡ 0 + length (joined h.sets)
            d = omega (arith, h.placed w)

        turn-unwritten : writing ≡ false → Sofar writing mv out g k b x z before now (l - m) (j - 1) place
        turn-unwritten w =
            next-with place now (λ t. not_written t) (λ t. not_written t)
            (h.buffer ∙ ap (λ (t : Bool). written_in t before (joined h.sets)) w
            ∙ ap (λ (t : Bool). written_in t before (joined (h.sets ++ (out z.picks ∷ [])))) (sym w))
          where
            not_written : {P : Type 0} → writing ≡ true → P
            not_written t = let a : ◌≡◌ {A = Bool} false true = sym w ∙ t in clash cc

      -- a call that hands nothing out
      turn-stop : (oc ≡ HandedOut → ⊥) → batch_by mv out k b x ≡ tale (stop_ending oc) h.sets (b - (l - m)) z
      turn-stop never = h.onward ∙ ap (behind h.sets (b - l)) called ∙ last oc never
        where
          same : (f : Ending) → tale f (h.sets ++ []) ((b - l) + m) z ≡ tale f h.sets (b - (l - m)) z
          same f =
              let d : (b - l) + m ≡ b - (l - m) = omega (arith, less, h.most) in
              ap₂ (λ (s : List (List ℕ)) (i : ℕ). tale f s i z) (append-nil h.sets) d

          last : (o : Stop) → (o ≡ HandedOut → ⊥)
              → behind h.sets (b - l) (onward mv out (batch_by mv out (j - 1)) l (stop_reply o (out z.picks)) m z)
              ≡ tale (stop_ending o) h.sets (b - (l - m)) z
          last HandedOut r = absurd (r refl)
          last Spent r = same (stop_ending Spent)
          last End r = same (stop_ending End)

-- ---- as the loop has it: the ladders of the chain at a spot that holds
pub advanced_most : (mv : State → Move) (n : ℕ) (rows c k : List ℕ) (b : ℕ) (x : State) (r : Report) → Advanced mv n rows c k b x r → r.moves ≤ b
advanced_most mv n rows c k b x r a = comes_most mv (λ p. p) b x r.outcome r.moves (state_of k r.spot) a.comes

module _ (writing : Bool) (mv : State → Move) (turning plain : Bool) (pl : List ℕ) (n g : ℕ) (rows : List ℕ) (room b : ℕ) (x : State) (before now : List ℕ)
    (l j place : ℕ) where
  abbrev out : List ℕ → List ℕ
  out = ladder_for turning plain pl n g (take n rows)

  module _ (y : State) (h : Sofar writing mv out g room b x y before now l j place) (few : b ≤ most_budget) (p : 0 < j) (c k : List ℕ) (r : Report)
      (a : Advanced mv n rows c k l y r) where
    ladder-is : ladder_of turning plain pl n g c ≡ out (state_of k r.spot).picks
    ladder-is = ap (ladder_of turning plain pl n g) a.holds.chained

    pub loop-next : r.outcome ≡ HandedOut → writing ≡ true → (now' : List ℕ) → Hands turning plain c pl n g now place now'
        → Holds n rows c k r.spot × Sofar writing mv out g room b x (state_of k r.spot) before now' (l - r.moves) (j - 1) (place + g)
    loop-next q w now' put = (
      a.holds,
      turn-next mv out writing g room b x y before now l j place h few p r.outcome r.moves (state_of k r.spot) a.comes q w now'
          (put.words ∙ ap (stored now place) ladder-is) (ap length (sym ladder-is) ∙ put.size),
    )

    pub loop-unwritten : r.outcome ≡ HandedOut → writing ≡ false
        → Holds n rows c k r.spot × Sofar writing mv out g room b x (state_of k r.spot) before now (l - r.moves) (j - 1) place
    loop-unwritten q w = (
      a.holds,
      turn-unwritten mv out writing g room b x y before now l j place h few p r.outcome r.moves (state_of k r.spot) a.comes q w,
    )

    pub loop-stop : NotHanded r.outcome → Lists writing mv out n rows room b x before c k now
        (record { outcome = r.outcome; ladders = room - j; moves = b - (l - r.moves); spot = r.spot })
    loop-stop q = record {
      sets = h.sets;
      comes =
          turn-stop mv out writing g room b x y before now l j place h few p r.outcome r.moves (state_of k r.spot) a.comes q;
      counted = room-behind mv out writing g room b x y before now l j place h;
      buffer = h.buffer;
      fits = λ w. omega (arith, h.placed w, h.room w);
      holds = a.holds;
      one = one;
    }
      where
        one : room ≡ 1 → ComesOut mv b x r.outcome (b - (l - r.moves)) (state_of k r.spot)
        one e =
            let (u, v) = h.first (omega (arith, e, p, h.counted)) in
            let d : r.moves ≡ b - (l - r.moves) = omega (arith, u, advanced_most mv n rows c k l y r a) in
            subst (λ (m : ℕ). ComesOut mv b x r.outcome m (state_of k r.spot)) d
            (subst (λ (m : ℕ). ComesOut mv m x r.outcome r.moves (state_of k r.spot)) u
            (subst (λ (z : State). ComesOut mv l z r.outcome r.moves (state_of k r.spot)) v a.comes))
