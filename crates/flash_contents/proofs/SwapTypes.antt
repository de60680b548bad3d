-- The table of swap types shows trials and requests.
use Rattle.std.proofs.Common.{◌≡◌, ℕ, ◌<◌, ◌&&◌, Bool, true, false, not, Some, None, refl, ◌∙◌, ap, if◌then◌else◌}
use Rattle.std.specs.Prelude.{option_map}
use Rattle.std.proofs.lemmas.Option.{none-some}
use Rattle.sector_map.specs.declared.layout.Side.TheVariants.{Primary, Secondary}
use Rattle.common.specs.Masks.{is_member}
use Rattle.common.specs.declared.kind.Kind.{Kind}
use Rattle.trailer.specs.declared.kinds.Magic.{Magic}
use Rattle.trailer.specs.declared.kinds.Magic.TheVariants.{Good, Unset, Bad}
use Rattle.trailer.specs.declared.kinds.SwapType.{SwapType}
use Rattle.trailer.specs.declared.kinds.SwapType.TheVariants as type
use Rattle.trailer.specs.Standing.{is_good}
use Rattle.common.specs.Kind.{kind_of}
use Rattle.trailer.specs.SwapTable.{is_unset}
use Rattle.upload.specs.View.{View}
use Rattle.machine.specs.Device.{DeviceState, Trial, Wanted}
use Rattle.upload.specs.Steady.{IsSteadyAt}
use Rattle.flash_contents.specs.Holding.{IsTrialAt}
use Rattle.flash_contents.specs.SwapTypes.{swap_type_at, type_of}

-- MCUboot's table, field by field.
abbrev by_fields : Magic → Bool → Bool → Magic → Bool → SwapType
by_fields first copied ok second asked =
    if is_good second && not asked then type.Test
    else if is_good second && asked then type.Perm
    else if is_good first && (copied && (not ok && is_unset second)) then type.Revert
    else type.None

tells_trial : (first second : Magic) (copied ok asked : Bool) → first ≡ Good → second ≡ Unset → copied ≡ true
    → ok ≡ false → by_fields first copied ok second asked ≡ type.Revert
tells_trial Good Unset true false asked a b c d = refl
tells_trial Good Unset true true asked a b c d = cc
tells_trial Good Unset false ok asked a b c d = cc
tells_trial Good Good copied ok asked a b c d = cc
tells_trial Good Bad copied ok asked a b c d = cc
tells_trial Unset second copied ok asked a b c d = cc
tells_trial Bad second copied ok asked a b c d = cc

same_kind : (a b : Kind) → Some a ≡ Some b → a ≡ b
same_kind a b e = cc

tells_request : (first second : Magic) (copied ok asked gone filled : Bool) (kind : Kind)
    → (if is_good second && (not gone && filled) then Some (kind_of asked) else None) ≡ Some kind
    → by_fields first copied ok second asked ≡ type_of kind
tells_request first Good copied ok true false true kind e = ap type_of (same_kind _ kind e)
tells_request first Good copied ok false false true kind e = ap type_of (same_kind _ kind e)
tells_request first Good copied ok asked false false kind e = absurd (none-some kind e)
tells_request first Good copied ok asked true filled kind e = absurd (none-some kind e)
tells_request first Unset copied ok asked gone filled kind e = absurd (none-some kind e)
tells_request first Bad copied ok asked gone filled kind e = absurd (none-some kind e)

pub trial_type : (w : View) (s : DeviceState) (trial : Trial) (i : ℕ) → IsTrialAt w s trial
    → is_member trial.set i ≡ true → trial.confirmed i ≡ false → swap_type_at w i ≡ type.Revert
trial_type w s trial i tries member tried_still =
    let tried = tries.opened.tried i member in
    tells_trial (w.trailer i Primary).magic (w.trailer i Secondary).magic (w.trailer i Primary).copy_done
    (w.trailer i Primary).image_ok (w.trailer i Secondary).image_ok tried.good (tries.unset i member) tried.copied
    (tried.confirmed ∙ tried_still)

pub request_type : (w : View) (s : DeviceState) (i : ℕ) (wanted : Wanted) → IsSteadyAt w s → i < s.images
    → s.request i ≡ Some wanted → swap_type_at w i ≡ type_of wanted.kind
request_type w s i wanted rests lt asked =
    tells_request (w.trailer i Primary).magic (w.trailer i Secondary).magic (w.trailer i Primary).copy_done
    (w.trailer i Primary).image_ok (w.trailer i Secondary).image_ok (w.trailer i Secondary).withdrawn _ wanted.kind
    ((rests.each i lt).request.kind ∙ ap (option_map (λ (v : Wanted). v.kind)) asked)
