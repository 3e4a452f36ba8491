-- Runs: the lines of bytes that follow each other, and a law for each turn of the code.
use Rattle.std.specs.Prelude.{Option}
use Rattle.std.proofs.Common.{◌≡◌, ℕ, zero, suc, ◌+◌, ◌*◌, ◌/◌, ◌%◌, ◌<◌, ◌≤◌, min, List, [], ◌∷◌, ◌++◌, length, get_or, take, drop, sym, refl, ap, ◌∙◌, append_assoc, append-nil, arith, length-append, length-drop, take-append-drop, length-take-le, drop-drop, le-ltb}
use lib.ListN.{get_or-append}
use lib.Seq.{take-append_seam, drop-append-le}
use Rattle.table.specs.declared.answers.Numbers.{Numbers}
use Rattle.steps.specs.Steps.{record_of}
use Rattle.steps.specs.Run.{Quay, quay_after, line_numbers, StepServed, record_count, steps_up_to, steps_in, lines_by, quay_after_all, lines_of, left_by, RecordsRun}
use Rattle.steps.specs.Lines.{line_bytes, BytesPut}
use Rattle.steps.specs.code.RunCode.{PutAt, StepRun, RunTo}
use Rattle.steps.proofs.Laws.Lines.{line_short}
use Rattle.restore.specs.declared.call.Call.{Call}

-- ---- steps that follow each other

pub by_then : (q : Quay) (xs ys : List (Option Call)) → lines_by q (xs ++ ys) ≡ lines_by q xs ++ lines_by (quay_after_all q xs) ys
unfolding lines_by quay_after_all
by_then q [] ys = refl
by_then q (x ∷ xs) ys =
    ap (λ (l : List ℕ). line_bytes q.progress.records (line_numbers q x) ++ l) (by_then (quay_after q x) xs ys)
    ∙ sym (append_assoc (line_bytes q.progress.records (line_numbers q x)) (lines_by (quay_after q x) xs) (lines_by (quay_after_all (quay_after q x) xs) ys))

pub all_then : (q : Quay) (xs ys : List (Option Call)) → quay_after_all q (xs ++ ys) ≡ quay_after_all (quay_after_all q xs) ys
unfolding quay_after_all
all_then q [] ys = refl
all_then q (x ∷ xs) ys = all_then (quay_after q x) xs ys

-- ---- the steps of bytes

-- the first record, and those of the bytes after it
pub steps_next : (bytes : List ℕ) → 0 < length bytes → steps_in bytes ≡ record_of bytes ∷ steps_in (drop 16 bytes)
unfolding steps_up_to
steps_next bytes h =
    let n : record_count bytes ≡ suc (record_count (drop 16 bytes)) = rw length-drop (omega arith) in
    rw n refl

pub steps_none : (bytes : List ℕ) → length bytes ≤ 0 → steps_in bytes ≡ []
unfolding steps_up_to
steps_none bytes h = let n : record_count bytes ≡ 0 = omega arith in rw n refl

-- a whole record, whatever follows it
record_front : (a b : List ℕ) → 16 ≤ length a → record_of (a ++ b) ≡ record_of a
unfolding record_of
record_front a b h =
    let long : 16 ≤ length (a ++ b) = rw length-append (omega arith) in
    rw (le-ltb (length (a ++ b)) 16 long, le-ltb (length a) 16 h)
    (simp (
      at 0 (omega arith),
      at 1 (omega arith),
      at 2 (omega arith),
      at 3 (omega arith),
      at 4 (omega arith),
      at 5 (omega arith),
      at 6 (omega arith),
      at 7 (omega arith),
      at 8 (omega arith),
      at 9 (omega arith),
      at 10 (omega arith),
      at 11 (omega arith),
      at 12 (omega arith),
      at 13 (omega arith),
      at 14 (omega arith),
      at 15 (omega arith),
    ))
  where
    at : (i : ℕ) → i < 16 → get_or (a ++ b) i 0 ≡ get_or a i 0
    at i k = get_or-append a b 0 i (omega arith)

steps_then : (k : ℕ) (a b : List ℕ) → length a ≡ 16 * k → steps_in (a ++ b) ≡ steps_in a ++ steps_in b
unfolding steps_up_to
steps_then zero [] b h = refl
steps_then zero (x ∷ xs) b h = absurd (omega arith)
steps_then (suc k) a b h =
    let long : 16 ≤ length a = omega arith in
    let rest : length (drop 16 a) ≡ 16 * k = rw length-drop (omega arith) in
    let some : 0 < length (a ++ b) = rw length-append (omega arith) in
    steps_next (a ++ b) some
    ∙ rw (record_front a b long, drop-append-le 16 a b long, steps_then k (drop 16 a) b rest, steps_next a (omega arith)) refl

-- THE LAW of chunks: bytes of whole records, and then any others. So chunks of 64 records, and a last one of fewer
-- bytes, one after the other from `start` on, give `quay_of` of the whole file.
module _ (q : Quay) (k : ℕ) (a b : List ℕ) (whole : length a ≡ 16 * k) where
  pub lines_then : lines_of q (a ++ b) ≡ lines_of q a ++ lines_of (left_by q a) b
  lines_then = ap (lines_by q) (steps_then k a b whole) ∙ by_then q (steps_in a) (steps_in b)

  pub left_then : left_by q (a ++ b) ≡ left_by (left_by q a) b
  left_then = ap (quay_after_all q) (steps_then k a b whole) ∙ all_then q (steps_in a) (steps_in b)

-- ---- the code

-- a step served, and its line put
pub step_run :
    {q q' : Quay} {step : Option Call} {numbers : Numbers} {out : List ℕ} {at n : ℕ} (text : List ℕ) {text' : List ℕ} {out' : List ℕ} {r : ℕ} → StepServed q step q' numbers
    → BytesPut (line_bytes q.progress.records numbers) text text' n → PutAt out at (take n text') out' r
    → StepRun q step q' out at out' r
step_run {q} {step = step} {numbers} text {text'} s b p = record {
  state = s.state;
  line = rw (b.count, b.buffer, take-append_seam (line_bytes q.progress.records numbers) (drop (length (line_bytes q.progress.records numbers)) text), s.line) at p;
}

-- ---- how far a run has come

-- the count of records, as the code has it
pub count_is : {n : ℕ} (bytes : List ℕ) → n ≡ length bytes / 16 + min 1 (length bytes % 16) → n ≡ record_count bytes
count_is bytes e = omega (arith, e)

module _ (q₀ : Quay) (bytes out₀ : List ℕ) (small : length bytes ≤ 1024) (large : 5376 ≤ length out₀) where
  pub run_none : RunTo q₀ bytes out₀ q₀ out₀ 0 0
  run_none = record { state = refl; lines = refl; rest = refl; size = refl; room = omega arith }

  pub run_room : {q : Quay} {out : List ℕ} {i to n : ℕ} → RunTo q₀ bytes out₀ q out i to → n ≡ record_count bytes → i < n
      → to + 84 ≤ length out
  run_room s k h = omega (arith, s.room, s.size)

  pub run_next :
      {q q' : Quay} {out out' : List ℕ} {i to n r : ℕ} {step : Option Call} → RunTo q₀ bytes out₀ q out i to
      → n ≡ record_count bytes → i < n → step ≡ record_of (drop (16 * i) bytes)
      → StepRun q step q' out to out' r → RunTo q₀ bytes out₀ q' out' (i + 1) r
  unfolding lines_by quay_after_all
  run_next {q} {q'} {out} {out'} {i} {to} {r = r} {step} s k h e o = record {
    state = rw (o.state, e) (rw next at s.state);
    lines = rw (o.line.start, o.state, e, append_assoc) (rw next at s.lines);
    rest = o.line.rest ∙ further;
    size = o.line.size ∙ s.size;
    room = omega (arith, s.room, o.line.end, line_short q.progress.records (line_numbers q step));
  }
    where
      next : steps_in (drop (16 * i) bytes) ≡ record_of (drop (16 * i) bytes) ∷ steps_in (drop (16 * (i + 1)) bytes)
      next =
          let there : 16 * i + 16 ≡ 16 * (i + 1) = omega arith in
          steps_next (drop (16 * i) bytes) (rw length-drop (omega arith))
          ∙ ap (λ (l : List ℕ). record_of (drop (16 * i) bytes) ∷ steps_in l) (drop-drop 16 (16 * i) bytes ∙ ap (λ (k : ℕ). drop k bytes) there)

      further : drop r out ≡ drop r out₀
      further =
          let l = line_bytes q.progress.records (line_numbers q step) in
          rw (o.line.end, ← drop-drop (length l) to out, ← drop-drop (length l) to out₀) (ap (drop (length l)) s.rest)

  pub run_end : {q : Quay} {out : List ℕ} {i to n : ℕ} → RunTo q₀ bytes out₀ q out i to → n ≡ record_count bytes → i ≤ n → n ≤ i
      → RecordsRun q₀ bytes q out₀ out to
  unfolding lines_by quay_after_all
  run_end {q} {out} {i} {to} s k le ge = record {
    state = rw none at s.state;
    lines = record { buffer = sym (take-append-drop to out) ∙ rw (s.rest, all, n) refl; count = n };
  }
    where
      none : steps_in (drop (16 * i) bytes) ≡ []
      none = steps_none (drop (16 * i) bytes) (rw length-drop (omega arith))

      all : take to out ≡ lines_of q₀ bytes
      all = sym (append-nil (take to out)) ∙ rw none at s.lines

      n : to ≡ length (lines_of q₀ bytes)
      n = sym (length-take-le to out (omega (arith, s.size, s.room))) ∙ ap length all

-- ---- what is written, chunk after chunk

-- what a run puts at the start of a buffer are the lines of its bytes
pub run_written : {q : Quay} {bytes : List ℕ} {q' : Quay} (out : List ℕ) {out' : List ℕ} {r : ℕ}
    → RecordsRun q bytes q' out out' r → take r out' ≡ lines_of q bytes
run_written {q} {bytes} out o = rw (o.lines.count, o.lines.buffer) (take-append_seam (lines_of q bytes) (drop (length (lines_of q bytes)) out))

-- a chunk of whole records, and then the rest of the file from where the chunk leaves quay
pub run_then :
    (k : ℕ) (rest : List ℕ) {q : Quay} {bytes : List ℕ} {q' : Quay} (out : List ℕ) {out' : List ℕ} {r : ℕ}
    → length bytes ≡ 16 * k → RecordsRun q bytes q' out out' r
    → lines_of q (bytes ++ rest) ≡ take r out' ++ lines_of q' rest
run_then k rest {q} {bytes} out whole o = lines_then q k bytes rest whole ∙ rw (run_written out o, o.state) refl
