-- Chunks one after the other: their bytes, and the lines of these.
use Rattle.std.proofs.Common.{◌≡◌, ℕ, ◌+◌, ◌*◌, List, [], ◌++◌, length, Option, IfSome, refl, ap, ◌∙◌, subst, sym, arith, length-append}
use Rattle.std.specs.declared.ops.ControlFlow.{ControlFlow}
use Rattle.std.specs.declared.ops.ControlFlow.TheVariants.{Continue, Break}
use Rattle.std.specs.Io.KnownBytes.{Consumes, Appends}
use Rattle.std.proofs.KnownBytes.{Consumes-nil, Appends-nil, Consumes-trans, Appends-trans, Consumes-whole}
use Rattle.steps.specs.Run.{Quay, steps_up_to, lines_by, quay_after_all, lines_of, left_by}
use Rattle.steps.proofs.Laws.Run.{lines_then, left_then}
use Rattle.steps.specs.declared.serve.Progress.{Progress}
use Rattle.quay.specs.code.Chunk.{ChunkRun}

-- how far the chunks have come: whole records are read, and their lines written
pub record ChunksRun (q₀ q : Quay) (file₀ file lines₀ lines : Option (List ℕ)) : Type 0 where
  pub bytes : List ℕ
  pub records : ℕ
  pub whole : length bytes ≡ 16 * records
  pub read : Consumes file₀ file bytes
  pub state : q ≡ left_by q₀ bytes
  pub written : Appends lines₀ lines (lines_of q₀ bytes)

module _ {q₀ : Quay} {file₀ lines₀ : Option (List ℕ)} where
  pub chunks_none : ChunksRun q₀ q₀ file₀ file₀ lines₀ lines₀
  unfolding steps_up_to lines_by quay_after_all
  chunks_none = record {
    bytes = [];
    records = 0;
    whole = refl;
    read = Consumes-nil file₀;
    state = refl;
    written = Appends-nil lines₀;
  }

  module _ {q : Quay} {q' : Progress → Quay} {file file' lines lines' : Option (List ℕ)} {next : ControlFlow Progress Progress} (s : ChunksRun q₀ q file₀ file lines₀ lines) (o : ChunkRun q q' file file' lines lines' next) where
    read_on : Consumes file₀ file' (s.bytes ++ o.bytes)
    read_on = Consumes-trans file₀ file file' s.bytes o.bytes s.read o.read

    written_on : Appends lines₀ lines' (lines_of q₀ (s.bytes ++ o.bytes))
    written_on =
        let then : Appends lines lines' (lines_of (left_by q₀ s.bytes) o.bytes) = subst (λ (q : Quay). Appends lines lines' (lines_of q o.bytes)) s.state o.written in
        subst (Appends lines₀ lines') (sym (lines_then q₀ s.records s.bytes o.bytes s.whole)) (Appends-trans lines₀ lines lines' _ _ s.written then)

    pub chunks_next : {p : Progress} → next ≡ Continue p → ChunksRun q₀ (q' p) file₀ file' lines₀ lines'
    chunks_next m =
        let whole = rw m at o.follows in
        let state = rw m at o.state in
        record {
          bytes = s.bytes ++ o.bytes;
          records = s.records + 64;
          whole = rw length-append (omega (arith, s.whole, whole));
          read = read_on;
          state = state ∙ ap (λ (q : Quay). left_by q o.bytes) s.state ∙ sym (left_then q₀ s.records s.bytes o.bytes s.whole);
          written = written_on;
        }

    pub chunks_end : {p : Progress} → next ≡ Break p → IfSome file₀ (λ bytes. Appends lines₀ lines' (lines_of q₀ bytes))
    chunks_end m =
        Consumes-whole file₀ file' (s.bytes ++ o.bytes) (λ (bytes : List ℕ). Appends lines₀ lines' (lines_of q₀ bytes)) read_on (rw m at o.follows) written_on
