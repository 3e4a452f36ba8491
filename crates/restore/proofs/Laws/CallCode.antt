-- Laws of `specs/Call.antt`: the contract of the one function that carries any call out, call by call.
use Rattle.std.specs.Prelude.{Option}
use Prim.Native.Nat.{ℕ}
use mathlib.Core.Path.{◌≡◌, refl}
use mathlib.Core.List.{List}
use lib.ListN.{length}
use Rattle.table.specs.declared.answers.Answer.{Answer}
use Rattle.table.specs.Answers.{Meets, Told}
use Rattle.layout.specs.Format.{format_of}
use Rattle.layout.specs.Stretch.{check_of, stretch_of}
use Rattle.homes.specs.declared.places.Place.{Place}
use Rattle.homes.specs.Evict.{evict_of}
use Rattle.calls.specs.Read.{read_of}
use Rattle.calls.specs.Write.{write_of}
use Rattle.checkpoints.specs.Open.{open_of}
use Rattle.checkpoints.specs.Create.{create_of}
use Rattle.checkpoints.specs.Commit.{commit_of, abandon_of}
use Rattle.restore.specs.declared.call.Call.{Call}
use Rattle.restore.specs.declared.call.Call.TheVariants.{Format, Check, Stretch, Read, Write, Evict, Open, Create, Commit, Abandon, Recover}
use Rattle.recovery.specs.Recover.{recover_of, RecoverMeets}
use Rattle.restore.specs.Call.{plan_of, CarriedOut}

-- ---- call by call

module _ {limit : ℕ} {t t' : List ℕ} (s : List ℕ) {r : Answer} {call : Call} where
  pub out_format : {n m f : ℕ} → call ≡ Format n m f → Meets (format_of t n m f) limit t t' r → CarriedOut call limit t t' s s r
  unfolding plan_of
  out_format e m = rw e (record { meets = m; scratch = refl })

  pub out_read : {n b : ℕ} → call ≡ Read n b → Meets (read_of t n b) limit t t' r → CarriedOut call limit t t' s s r
  unfolding plan_of
  out_read e m = rw e (record { meets = m; scratch = refl })

  pub out_write : {n b x : ℕ} → call ≡ Write n b x → Meets (write_of t n b x) limit t t' r → CarriedOut call limit t t' s s r
  unfolding plan_of
  out_write e m = rw e (record { meets = m; scratch = refl })

  pub out_evict : {n b : ℕ} {place : Place} → call ≡ Evict n b place → Meets (evict_of t n b place) limit t t' r → CarriedOut call limit t t' s s r
  unfolding plan_of
  out_evict e m = rw e (record { meets = m; scratch = refl })

  pub out_open : call ≡ Open → Meets (open_of t) limit t t' r → CarriedOut call limit t t' s s r
  unfolding plan_of
  out_open e m = rw e (record { meets = m; scratch = refl })

  pub out_create : call ≡ Create → Meets (create_of t) limit t t' r → CarriedOut call limit t t' s s r
  unfolding plan_of
  out_create e m = rw e (record { meets = m; scratch = refl })

  pub out_commit : call ≡ Commit → Meets (commit_of t) limit t t' r → CarriedOut call limit t t' s s r
  unfolding plan_of
  out_commit e m = rw e (record { meets = m; scratch = refl })

  pub out_abandon : call ≡ Abandon → Meets (abandon_of t) limit t t' r → CarriedOut call limit t t' s s r
  unfolding plan_of
  out_abandon e m = rw e (record { meets = m; scratch = refl })

  pub out_recover : {s' : List ℕ} {lost : Option ℕ} → call ≡ Recover lost → RecoverMeets (recover_of t lost (length s)) limit t t' s s' r → CarriedOut call limit t t' s s' r
  unfolding plan_of
  out_recover e m = rw e (record { meets = m.meets; scratch = m.scratch })

-- Check and Stretch store nothing, at any limit
module _ (limit : ℕ) (t s : List ℕ) {r : Answer} {call : Call} where
  pub out_check : call ≡ Check → Told (check_of t) t r → CarriedOut call limit t t s s r
  unfolding plan_of
  out_check e m = rw e (record { meets = m.meets limit; scratch = refl })

  pub out_stretch : {n : ℕ} → call ≡ Stretch n → Told (stretch_of t n) t r → CarriedOut call limit t t s s r
  unfolding plan_of
  out_stretch e m = rw e (record { meets = m.meets limit; scratch = refl })
