-- A row as it is noted: one entry, then the row entry by entry; those that hold nothing are passed over.
use Prim.Native.Nat.{ℕ, zero, suc, ◌+◌, ◌*◌, ◌/◌, ◌%◌, ◌^◌, ◌<◌, ◌≤◌}
use mathlib.Core.Path.{◌≡◌, refl, sym, ap, ap₂, subst, ◌∙◌}
use mathlib.Core.Bool.{Bool, true, false, not, cond, ◌&&◌, and-true, and_assoc, and_comm}
use mathlib.Core.List.{List}
use native.Mathlib.Omega.{arith}
use native.Mathlib.Decide.{ℕ_discrete}
use native.Mathlib.Numerals.{add-one}
use lib.Bits.{bit_or, bit_xor}
use lib.Dec.{eqb}
use lib.ListN.{length, get_or, set, length-set}
use lib.Seq.{get_or-set_same, get_or-set_other}
use Rattle.counting.proofs.Laws.Tests.{and_both}
use Rattle.counting.proofs.Laws.Differences.{none_gathered, none_differ}
use Rattle.counting.specs.Counting.{every, sum, count}
use Rattle.counting.proofs.Laws.Counting.{every_none, every_next, sum_none, sum_next, count_none, below}
use Rattle.table.specs.declared.geometry.Geometry.{Geometry}
use Rattle.table.specs.Geometry.{words_of, entry_at, Placed}
use Rattle.table.proofs.Laws.Geometry.{entry_within, product}
use Rattle.table.specs.View.{View, view, live, entry_in}
use Rattle.table.proofs.Laws.View.{entry_read}
use Rattle.entries.specs.declared.survey.Turn.{Turn}
use Rattle.entries.specs.code.Row.{top_of, row_state}
use Rattle.entries.proofs.Laws.Row.{row_state_lem}
use Rattle.entries.specs.code.Survey.{top_at, weight_of, holds, keeps, Noted, agrees_at, low_form}
use Rattle.entries.specs.code.SurveyRow.{occupies, Gathered, first_with, kept_with, same_with, same_kept, EntryNoted, NotedAll, RowReady, RowNoted}
use Rattle.entries.proofs.Laws.SurveyFields.{weight_holds, weight_keeps}
use Rattle.entries.proofs.Laws.SurveyStep.{noted_blank, noted_room, noted_next, noted_same, agrees_blank, frames_blank}
use Rattle.entries.proofs.Laws.SurveyGather.{next_occupied, all_blank, count_occupied}

-- ---- one entry

pub entry_noted :
    (s x y j : ℕ) (notes : List ℕ) {w f h met kept : ℕ} → w ≡ weight_of (top_of s) → f ≡ first_with (get_or notes j 0) (get_or notes (j + 1) 0) x
    → h ≡ kept_with (get_or notes j 0) (get_or notes (j + 2) 0) y → met ≡ cond (eqb (w % 32) 0) f x → kept ≡ cond (eqb (w / 32 % 1024) 0) h y
    → EntryNoted s x y j notes (set (set (set notes j (get_or notes j 0 + w)) (j + 1) f) (j + 2) h)
    (record { frames = w / 2 ^ 45; differ = bit_or (bit_xor f met) (bit_or (bit_xor h kept) (s % 2 ^ 58)) })
entry_noted s x y j notes {f = f} {h} {met} {kept} a b c d e = record {
  stored = rw (← a, ← b, ← c) refl;
  frames = ap (λ w. w / 2 ^ 45) a;
  same =
      none_gathered (bit_xor f met) (bit_or (bit_xor h kept) (s % 2 ^ 58))
      ∙ ap₂ ◌&&◌ (none_differ f met) (none_gathered (bit_xor h kept) (s % 2 ^ 58) ∙ ap (λ z. z && low_form s) (none_differ h kept))
      ∙ rw (← a, ← b, ← c, d, e) refl;
}

-- what is chosen by whether a copy is there is chosen by the weight
either_way : (b : Bool) (x f : ℕ) → cond b x f ≡ cond (not b) f x
either_way true x f = refl
either_way false x f = refl

module _ (x f : ℕ) {top w met : ℕ} {there : Bool} (small : top < 64) (a : w ≡ weight_of top) (e : met ≡ cond there x f) where
  pub met_held : there ≡ holds top → met ≡ cond (eqb (w % 32) 0) f x
  met_held b = e ∙ rw (a, b, weight_holds top small) (either_way (holds top) x f)

  pub met_kept : there ≡ keeps top → met ≡ cond (eqb (w / 32 % 1024) 0) f x
  met_kept b = e ∙ rw (a, b, weight_keeps top small) (either_way (keeps top) x f)

-- three words in a row are written
module _ (l : List ℕ) (j a b c : ℕ) where
  abbrev words₁ : List ℕ
  words₁ = set l j a

  abbrev words₂ : List ℕ
  words₂ = set words₁ (j + 1) b

  abbrev words₃ : List ℕ
  words₃ = set words₂ (j + 2) c

  words_size : length words₃ ≡ length l
  words_size = length-set words₂ (j + 2) c ∙ length-set words₁ (j + 1) b ∙ length-set l j a

  words_other : (i : ℕ) → (i ≡ j → ⊥) → (i ≡ j + 1 → ⊥) → (i ≡ j + 2 → ⊥) → get_or words₃ i 0 ≡ get_or l i 0
  words_other i d e f = get_or-set_other words₂ (j + 2) i c 0 f ∙ get_or-set_other words₁ (j + 1) i b 0 e ∙ get_or-set_other l j i a 0 d

  module _ (room : j + 2 < length l) where
    words_0 : get_or words₃ j 0 ≡ a
    words_0 =
        get_or-set_other words₂ (j + 2) j c 0 (λ (e : j ≡ j + 2). omega arith)
        ∙ get_or-set_other words₁ (j + 1) j b 0 (λ (e : j ≡ j + 1). omega arith)
        ∙ get_or-set_same l j a 0 (omega arith)

    words_1 : get_or words₃ (j + 1) 0 ≡ b
    words_1 =
        get_or-set_other words₂ (j + 2) (j + 1) c 0 (λ (e : j + 1 ≡ j + 2). omega arith)
        ∙ get_or-set_same words₁ (j + 1) b 0 (omega (arith, length-set l j a))

    words_2 : get_or words₃ (j + 2) 0 ≡ c
    words_2 = get_or-set_same words₂ (j + 2) c 0 (omega (arith, length-set words₁ (j + 1) b, length-set l j a))

-- ---- a row, entry by entry

and_turn : (a b c : Bool) → (a && (b && c)) ≡ (c && (a && b))
and_turn a b c = sym (and_assoc a b c) ∙ and_comm (a && b) c

-- of node n's row of m items those below b are noted
pub record Passed (v : View) (m n b : ℕ) (notes : List ℕ) (frames : ℕ) (same : Bool) : Type 0 where
  pub long : 3 * m ≤ length notes
  pub done : (i : ℕ) → i < b → Noted v i (n + 1) (get_or notes (3 * i) 0) (get_or notes (3 * i + 1) 0) (get_or notes (3 * i + 2) 0)
  pub left : (i : ℕ) → b ≤ i → i < m → Noted v i n (get_or notes (3 * i) 0) (get_or notes (3 * i + 1) 0) (get_or notes (3 * i + 2) 0)
  pub sums : frames ≡ sum (λ i. weight_of (top_at v i n) / 2 ^ 45) b
  pub agrees : same ≡ every (λ i. low_form (v.entry n i).state && agrees_at v i n) b
  pub few : frames ≤ 2 ^ 19 * b

module _ (v : View) (m n : ℕ) where
  -- what the row's entry of item i tells
  abbrev frames_here : ℕ → ℕ
  frames_here i = weight_of (top_at v i n) / 2 ^ 45

  abbrev same_here : ℕ → Bool
  same_here i = low_form (v.entry n i).state && agrees_at v i n

  -- item i is noted for k nodes
  abbrev NotedAs : ℕ → List ℕ → ℕ → Type 0
  NotedAs k notes i = Noted v i k (get_or notes (3 * i) 0) (get_or notes (3 * i + 1) 0) (get_or notes (3 * i + 2) 0)

  passed_none : {notes : List ℕ} → NotedAll v m n notes → Passed v m n 0 notes 0 true
  passed_none a = record {
    long = a.long;
    done = λ i l. absurd (omega arith);
    left = λ i h l. a.each i l;
    sums = sum_none frames_here;
    agrees = every_none same_here;
    few = omega arith;
  }

  module _ (b : ℕ) {frames : ℕ} {notes : List ℕ} {same : Bool} (l : b < m) (p : Passed v m n b notes frames same) where
    here : NotedAs n notes b
    here = p.left b (omega arith) l

    passed_blank : (v.entry n b).state ≡ 0 → Passed v m n (b + 1) notes frames same
    passed_blank e = record {
      long = p.long;
      done = λ i h. below (NotedAs (n + 1) notes) (let z : i < suc b = omega arith in z) (p.done i) (noted_blank v b n here e);
      left = λ i h k. p.left i (omega arith) k;
      sums = omega (arith, sum_next frames_here b p.sums (sym (ap (λ w. weight_of (top_of w) / 2 ^ 45) e ∙ frames_blank)));
      agrees = sym (and-true same) ∙ every_next same_here b p.agrees (sym (and_both (ap low_form e) (agrees_blank v b n e)));
      few = omega (arith, p.few);
    }

    module _ (lives : live v n ≡ true) (nodes : n < 31) (small : top_at v b n < 64) {s x y : ℕ} (a : s ≡ (v.entry n b).state)
        (c : x ≡ (v.entry n b).value) (d : y ≡ (v.entry n b).kept_value) where
      passed_room : get_or notes (3 * b) 0 + weight_of (top_of s) < 2 ^ 64
      passed_room = rw a (noted_room v b n here lives nodes small)

      module _ {notes' : List ℕ} {r : Turn} (q : EntryNoted s x y (3 * b) notes notes' r) where
        passed_frames : r.frames < 2 ^ 19
        passed_frames = omega (arith, q.frames, passed_room)

        passed_next : Passed v m n (b + 1) notes' (frames + r.frames) (same && eqb r.differ 0)
        passed_next = record {
          long = omega (arith, p.long, size);
          done = λ i h. below (NotedAs (n + 1) notes') (let z : i < suc b = omega arith in z) (λ k. moved (n + 1) i (λ (e : i ≡ b). omega arith) (p.done i k)) noted;
          left = λ i h k. moved n i (λ (e : i ≡ b). omega arith) (p.left i (omega arith) k);
          sums = sum_next frames_here b p.sums (q.frames ∙ ap (λ w. weight_of (top_of w) / 2 ^ 45) a);
          agrees = every_next same_here b p.agrees (q.same ∙ turned ∙ ap₂ ◌&&◌ (ap low_form a) (noted_same v b n here lives nodes small w c d));
          few = omega (arith, p.few, passed_frames);
        }
          where
            w : weight_of (top_of s) ≡ weight_of (top_at v b n)
            w = ap (λ z. weight_of (top_of z)) a

            tally : ℕ
            tally = get_or notes (3 * b) 0 + weight_of (top_of s)

            first : ℕ
            first = first_with (get_or notes (3 * b) 0) (get_or notes (3 * b + 1) 0) x

            kept : ℕ
            kept = kept_with (get_or notes (3 * b) 0) (get_or notes (3 * b + 2) 0) y

            turned :
                (same_with (weight_of (top_of s)) first x && (same_kept (weight_of (top_of s)) kept y && low_form s))
                ≡ (low_form s && (same_with (weight_of (top_of s)) first x && same_kept (weight_of (top_of s)) kept y))
            turned = and_turn (same_with (weight_of (top_of s)) first x) (same_kept (weight_of (top_of s)) kept y) (low_form s)

            room : 3 * b + 2 < length notes
            room = omega (arith, p.long)

            size : length notes' ≡ length notes
            size = ap length q.stored ∙ words_size notes (3 * b) tally first kept

            at : (i : ℕ) {z : ℕ} → get_or (words₃ notes (3 * b) tally first kept) i 0 ≡ z → get_or notes' i 0 ≡ z
            at i e = ap (λ o. get_or o i 0) q.stored ∙ e

            apart : (i k : ℕ) → k < 3 → (i ≡ b → ⊥) → get_or notes' (3 * i + k) 0 ≡ get_or notes (3 * i + k) 0
            apart i k h e = at (3 * i + k) (words_other notes (3 * b) tally first kept (3 * i + k) (λ (z : 3 * i + k ≡ 3 * b). e (omega arith))
                (λ (z : 3 * i + k ≡ 3 * b + 1). e (omega arith)) (λ (z : 3 * i + k ≡ 3 * b + 2). e (omega arith)))

            zeroth : (i : ℕ) → (i ≡ b → ⊥) → get_or notes' (3 * i) 0 ≡ get_or notes (3 * i) 0
            zeroth i e = at (3 * i) (words_other notes (3 * b) tally first kept (3 * i) (λ (z : 3 * i ≡ 3 * b). e (omega arith))
                (λ (z : 3 * i ≡ 3 * b + 1). omega arith) (λ (z : 3 * i ≡ 3 * b + 2). omega arith))

            moved : (k i : ℕ) → (i ≡ b → ⊥) → NotedAs k notes i → NotedAs k notes' i
            moved k i e = rw (zeroth i e, apart i 1 (omega arith) e, apart i 2 (omega arith) e) (λ z. z)

            noted : NotedAs (n + 1) notes' b
            noted = rw (
              at (3 * b) (words_0 notes (3 * b) tally first kept room),
              at (3 * b + 1) (words_1 notes (3 * b) tally first kept room),
              at (3 * b + 2) (words_2 notes (3 * b) tally first kept room),
            ) (noted_next v b n here lives nodes small w c d)

  -- entries that hold nothing are passed over
  passed_blanks :
      (e p : ℕ) {frames : ℕ} {notes : List ℕ} {same : Bool} → p ≤ e → e ≤ m → ((i : ℕ) → p ≤ i → i < e → (v.entry n i).state ≡ 0)
      → Passed v m n p notes frames same → Passed v m n e notes frames same
  passed_blanks zero p h l z q = let e : p ≡ 0 = omega arith in rw e at q
  passed_blanks (suc e) p h l z q = elim (ℕ_discrete p (suc e)) [
    | yes o ↦ rw o at q
    | no o ↦ rw add-one at (passed_blank e (omega arith) (passed_blanks e p (omega arith) (omega arith) (λ i j k. z i j (omega arith)) q) (z e (omega arith) (omega arith)))
  ]

-- ---- the row of a node as its code goes

-- before the loop: the row starts at a word, and the offsets of what it holds are gathered
pub record RowSet (g : Geometry) (t : List ℕ) (n : ℕ) (offsets notes : List ℕ) (start : ℕ) : Type 0 where
  pub words : words_of g ≤ length t
  pub node : n < g.nodes
  pub nodes : g.nodes ≤ 16
  pub items : g.items ≤ 256
  pub lives : live (view g t) n ≡ true
  pub noted : NotedAll (view g t) g.items n notes
  pub placed : Placed g n 0 start
  pub gathered : Gathered (row_state t start) g.items offsets (length offsets)

-- the items below p are noted; k of their entries hold something
pub record NotedTo (g : Geometry) (t : List ℕ) (n start p k : ℕ) (notes : List ℕ) (frames differ : ℕ) : Type 0 where
  pub within : p ≤ g.items
  pub counted : count (occupies (row_state t start)) p ≡ k
  pub passed : Passed (view g t) g.items n p notes frames (eqb differ 0)

-- in a turn: the next entry that holds something is that of item b, whose words are noted from j on
pub record Turning (g : Geometry) (t : List ℕ) (n start j k : ℕ) (notes : List ℕ) (frames differ b : ℕ) : Type 0 where
  pub at : j ≡ 3 * b
  pub there : b < g.items
  pub holds : row_state t start b ≡ 0 → ⊥
  pub noted : NotedTo g t n start b k notes frames differ

module _ {g : Geometry} {t list notes : List ℕ} {n start : ℕ} (r : RowReady g t n list notes) (a : Placed g n 0 start) where
  pub row_asks : (start + 3 * g.items ≤ length t) × ((g.items ≤ length list) × (g.items ≤ 256))
  row_asks =
      let q : (n + 1) * g.items ≤ g.nodes * g.items = product g.nodes g.items (omega (arith, r.node)) (omega arith) in
      (omega (arith, r.words, a.at), (r.room, r.items))

  pub row_set : {offsets : List ℕ} → Gathered (row_state t start) g.items offsets (length offsets) → RowSet g t n offsets notes start
  row_set h = record { words = r.words; node = r.node; nodes = r.nodes; items = r.items; lives = r.lives; noted = r.noted; placed = a; gathered = h }

module _ {g : Geometry} {t offsets notes₀ : List ℕ} {n start : ℕ} (r : RowSet g t n offsets notes₀ start) where
  state_at : (b : ℕ) → b < g.items → row_state t start b ≡ ((view g t).entry n b).state
  state_at = row_state_lem g t n r.node r.placed

  pub row_starts : NotedTo g t n start 0 0 notes₀ 0 0
  row_starts = record { within = omega arith; counted = sym (count_none (occupies (row_state t start))); passed = passed_none (view g t) g.items n r.noted }

  module _ {p k frames differ : ℕ} {notes : List ℕ} (u : NotedTo g t n start p k notes frames differ) where
    pub row_turns : {j : ℕ} → k < length offsets → j ≡ get_or offsets k 0 → (b : ℕ) × Turning g t n start j k notes frames differ b
    row_turns {j} l e =
        let x = next_occupied (row_state t start) g.items p u.within (omega (arith, u.counted, r.gathered.counted)) in
        let b = x.0 in
        let y = x.1 in
        let o : count (occupies (row_state t start)) b ≡ k = y.counted ∙ u.counted in (
          b,
          record {
            at = e ∙ ap (λ i. get_or offsets i 0) (sym o) ∙ r.gathered.lists b y.within y.holds;
            there = y.within;
            holds = y.holds;
            noted = record {
              within = omega (arith, y.within);
              counted = o;
              passed = passed_blanks (view g t) g.items n b p y.from (omega (arith, y.within))
                  (λ i h q. sym (state_at i (omega (arith, y.within))) ∙ y.blank i h q) u.passed;
            };
          },
        )

    pub row_ends : length offsets ≤ k → RowNoted g (view g t) n notes (record { frames = frames; differ = differ })
    row_ends l =
        let blank = all_blank (row_state t start) p g.items (omega (arith, u.counted, r.gathered.counted)) in
        let z = passed_blanks (view g t) g.items n g.items p u.within (omega arith) (λ i h q. sym (state_at i q) ∙ blank i h q) u.passed in
        record { noted = record { long = z.long; each = z.done }; frames = z.sums; same = z.agrees }

  module _ {j k frames differ b : ℕ} {notes : List ℕ} (u : Turning g t n start j k notes frames differ b) where
    pub turn_fits : start + j < 2 ^ 64
    turn_fits = omega (arith, r.placed.small, u.at, u.there, r.items)

    place : start + j ≡ entry_at g n b
    place = omega (arith, r.placed.at, u.at)

    entry : (view g t).entry n b ≡ entry_in t (entry_at g n b)
    entry = entry_read g t n b r.node u.there

    read_state : get_or t (start + j) 0 ≡ ((view g t).entry n b).state
    read_state = ap (λ i. get_or t i 0) place ∙ sym (ap (λ e. e.state) entry)

    read_value_lem : get_or t (start + j + 1) 0 ≡ ((view g t).entry n b).value
    read_value_lem = ap (λ i. get_or t (i + 1) 0) place ∙ sym (ap (λ e. e.value) entry)

    read_kept : get_or t (start + j + 2) 0 ≡ ((view g t).entry n b).kept_value
    read_kept = ap (λ i. get_or t (i + 2) 0) place ∙ sym (ap (λ e. e.kept_value) entry)

    module _ (fits : (i : ℕ) → get_or t i 0 < 2 ^ 64) where
      small : top_at (view g t) b n < 64
      small = omega (arith, fits (start + j), read_state)

      few : n < 31
      few = omega (arith, r.node, r.nodes)

      pub turn_asks :
          (start + j + 2 < length t) × ((j + 2 < length notes) × (get_or notes j 0 + weight_of (top_of (get_or t (start + j) 0)) < 2 ^ 64))
      turn_asks = (
        omega (arith, place, entry_within g r.node u.there, r.words),
        (
          omega (arith, u.at, u.there, u.noted.passed.long),
          subst (λ i. get_or notes i 0 + weight_of (top_of (get_or t (start + j) 0)) < 2 ^ 64) (sym u.at)
              (passed_room (view g t) g.items n b u.there u.noted.passed r.lives few small read_state read_value_lem read_kept),
        ),
      )

      module _ {notes' : List ℕ} {turn : Turn} (q : EntryNoted (get_or t (start + j) 0) (get_or t (start + j + 1) 0) (get_or t (start + j + 2) 0) j notes notes' turn) where
        noted_here : EntryNoted (get_or t (start + j) 0) (get_or t (start + j + 1) 0) (get_or t (start + j + 2) 0) (3 * b) notes notes' turn
        noted_here = subst (λ i. EntryNoted (get_or t (start + j) 0) (get_or t (start + j + 1) 0) (get_or t (start + j + 2) 0) i notes notes' turn) u.at q

        pub turn_frames : frames + turn.frames < 2 ^ 64
        turn_frames = omega (
          arith,
          u.noted.passed.few,
          u.there,
          r.items,
          passed_frames (view g t) g.items n b u.there u.noted.passed r.lives few small read_state read_value_lem read_kept noted_here,
        )

        pub turn_noted : NotedTo g t n start (b + 1) (k + 1) notes' (frames + turn.frames) (bit_or differ turn.differ)
        turn_noted = record {
          within = omega (arith, u.there);
          counted = count_occupied (row_state t start) b u.holds ∙ ap (λ i. i + 1) u.noted.counted;
          passed = rw (none_gathered differ turn.differ)
              (passed_next (view g t) g.items n b u.there u.noted.passed r.lives few small read_state read_value_lem read_kept noted_here);
        }
