-- THE THEOREM of formatted tables: Format's list leaves one, for every allowed geometry. And what such a table shows.
use Rattle.std.specs.Prelude.{Ok}
use Prim.Native.Nat.{ℕ, ◌+◌, ◌*◌, ◌/◌, ◌%◌, ◌<◌, ◌≤◌}
use mathlib.Core.Path.{◌≡◌, refl, sym, ap, ◌∙◌, subst}
use mathlib.Core.Bool.{true}
use mathlib.Core.List.{List}
use native.Mathlib.Nat.{add-zero}
use lib.ListN.{length, get_or}
use borrow.Author.Tests.{le-ltb}
use Rattle.counting.proofs.Laws.Tests.{both}
use Rattle.table.specs.declared.geometry.Geometry.{Geometry}
use Rattle.table.specs.Words.{mark_word, size_word}
use Rattle.table.specs.Geometry.{allowed, in_ranges, entry_at, words_of}
use Rattle.table.proofs.Laws.Geometry.{sized, roomy, allowed_made}
use Rattle.table.specs.Stores.{address_of, word_of}
use Rattle.table.proofs.Laws.Stores.{All, none, more, all_then, all_runs, after_length, after_held}
use Rattle.table.specs.View.{view, entry_in}
use Rattle.table.proofs.Laws.View.{mark_read, entry_read}
use Rattle.table.proofs.Laws.Pass.{grid_within}
use Rattle.entries.specs.Check.{fault_of}
use Rattle.entries.proofs.Laws.Frames.{used_most}
use Rattle.entries.proofs.Laws.CheckFacts.{facts_accepted}
use Rattle.layout.specs.Format.{first_mark, first_entries, format_stores}
use Rattle.layout.specs.Formatted.{fresh_on, Formatted, FormattedWith, GoOnWorking}
use Rattle.layout.proofs.Laws.Format.{geometry_fits, format_carried, format_accepted}
use Rattle.layout.proofs.Laws.FormattedView.{formatted_entry, FormattedView, formatted_sound, list_shows, list_word}

-- ---- a formatted table

module _ (t : List ℕ) (f : Formatted t) where
  abbrev G : Geometry
  G = f.geometry

  pub formatted_shows : FormattedView G (view G t)
  formatted_shows = subst (λ u. FormattedView G (view G u)) f.holds (list_shows t G f.long)

  pub formatted_passes : fault_of t ≡ Ok G
  formatted_passes =
      let fair = f.fair in
      let s = sized G.nodes G.items G.frames (both (in_ranges G.nodes G.items G.frames) fair).0 in
      let size = size_word G.nodes G.items G.frames in
      let word = subst (λ u. get_or u 0 0 ≡ size) f.holds (list_word t G f.long) in
      facts_accepted t G 0 0 (record {
        shape = record { word = word; fair = fair; sizes = s; long = f.long };
        table = formatted_sound G (view G t) formatted_shows s.nodes_low s.frames_low (roomy _ _ _ fair);
      })

-- ---- the list on a table that shows it: every store writes what is there

module _ (g : Geometry) (t : List ℕ) (shows : FormattedView g (view g t))
    (word : get_or t 0 0 ≡ size_word g.nodes g.items g.frames) where
  mark_held : (n : ℕ) → n < g.nodes → get_or t (1 + n) 0 ≡ mark_word 0 0
  mark_held n l = mark_read g t n l refl ∙ shows.mark n l

  entry_held : (n b : ℕ) → n < g.nodes → b < g.items → entry_in t (entry_at g n b) ≡ formatted_entry g.nodes n b
  entry_held n b l k = sym (entry_read g t n b l k) ∙ shows.entry n b l k

  list_held : All (λ s. get_or t (address_of g s) 0 ≡ word_of s) (format_stores g)
  unfolding format_stores first_entries
  list_held =
      more word (all_then (all_runs first_mark g.nodes (λ n l. more (mark_held n l) none))
      (all_runs _ (g.nodes * g.items) (λ k h.
      let (l, i) = grid_within g k h in
      let at = entry_at g (k / g.items) (k % g.items) in
      let e = entry_held (k / g.items) (k % g.items) l i in
      more (ap (λ i. get_or t i 0) (add-zero at) ∙ ap (λ e. e.state) e)
      (more (ap (λ e. e.value) e) (more (ap (λ e. e.kept_value) e) none)))))

-- ---- THE THEOREM

already_formatted :
    (t : List ℕ) (g : Geometry) → allowed g.nodes g.items g.frames ≡ true → words_of g ≤ length t
    → FormattedWith g (fresh_on g t)
already_formatted t g fair long =
    let u = fresh_on g t in
    let f : Formatted u = record {
      geometry = g;
      fair = fair;
      long = rw (after_length g (length (format_stores g)) (format_stores g) t) long;
      holds = after_held g (length (format_stores g)) u (list_held g u (list_shows t g long) (list_word t g long));
    } in
    record { formatted = f; geometry_is = refl; passes = formatted_passes u f }

pub go_on_working : GoOnWorking
go_on_working = record {
  already = already_formatted;
  by_format = λ t n m f g x ss e.
      let a = format_accepted t n m f e in
      (rw a.stores (already_formatted t g a.fair a.long), a.usable);
  again = λ t f h.
      let g = f.geometry in
      format_carried t _ _ _ (geometry_fits t _ _ _ (allowed_made _ _ _ f.fair) (le-ltb (2 * g.items) g.frames h) f.long);
  never_used = λ t g. used_most g (view g t);
}
