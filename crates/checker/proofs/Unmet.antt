-- Requests that can't meet a property, and reasons that can't hold.
use Rattle.std.proofs.Common.{◌≡◌, ℕ, false, List, None, Some, ap, refl, subst, sym, ◌∙◌}
use Rattle.std.specs.Prelude.{◌↔◌, IsSomeAnd, IsTrue}
use Rattle.std.proofs.lemmas.Bool.{false≢true}
use Rattle.std.proofs.lemmas.Option.{none-some}
use Rattle.reports.specs.declared.table.Entry.{Entry}
use Rattle.reports.specs.declared.table.Request.{Request}
use Rattle.reports.specs.declared.table.Request.TheVariants as request
use Rattle.reports.specs.declared.table.Image.{Image}
use Rattle.reports.specs.declared.table.Table.{Table}
use Rattle.reports.specs.declared.report.Reason.{Reason}
use Rattle.reports.specs.declared.report.Reason.TheVariants.{Damaged, Older, Counter, NoSuchImage, Needs, NeedsOne}
use Rattle.reports.specs.declared.report.Refusal.{Refusal}
use Rattle.reports.specs.Combination.{image_at, intact_entry, RequestMeets}
use Rattle.reports.specs.Reasons.{ReasonHolds}
use Rattle.reports.specs.Rightness.{is_requested}

-- The answer is no if the property can't hold.
pub no_where : {A : Type 0} → (A → ⊥) → IsTrue false ↔ A
no_where never = (λ yes. absurd (false≢true yes), λ it. absurd (never it))

-- A request that isn't intact.
pub intact-none : (asked : Request) → ((entry : Entry) → asked ≡ request.Entry entry → ⊥) → intact_entry asked ≡ None
intact-none request.None other = refl
intact-none request.Damaged other = refl
intact-none (request.Entry entry) other = absurd (other entry refl)

-- An image that a table doesn't have meets nothing.
pub unmet-missing : (table : Table) (j : ℕ) (P : Image → Entry → Type 0) → image_at table j ≡ None
    → RequestMeets table j P → ⊥
unmet-missing table j P none meets =
    subst (λ found. IsSomeAnd found (λ image. IsSomeAnd (intact_entry image.request) (λ entry. P image entry))) none meets

-- An image without an intact request meets nothing.
pub unmet-other : (table : Table) (j : ℕ) (image : Image) (P : Image → Entry → Type 0)
    → image_at table j ≡ Some image → intact_entry image.request ≡ None → RequestMeets table j P → ⊥
unmet-other table j image P at none meets =
    subst (λ found. IsSomeAnd found (λ entry. P image entry)) none
    (subst (λ found. IsSomeAnd found (λ image. IsSomeAnd (intact_entry image.request) (λ entry. P image entry))) at meets)

-- No reason holds for an image that a table doesn't have.
pub no_reason-missing : (table : Table) (before : List Refusal) (own : ℕ) (reason : Reason)
    → image_at table own ≡ None → ReasonHolds table before own reason → ⊥
no_reason-missing table before own Damaged none holds =
    subst (λ found. IsSomeAnd found (λ image. image.request ≡ request.Damaged)) none holds
no_reason-missing table before own Older none holds = unmet-missing table own _ none holds
no_reason-missing table before own Counter none holds = unmet-missing table own _ none holds
no_reason-missing table before own (NoSuchImage j) none holds = unmet-missing table own _ none holds
no_reason-missing table before own (Needs j minimum) none holds = unmet-missing table own _ none holds
no_reason-missing table before own (NeedsOne group) none holds = unmet-missing table own _ none holds

-- If a request isn't intact, the only reason that can hold is `Damaged`.
pub no_reason-other : (table : Table) (before : List Refusal) (own : ℕ) (image : Image) (reason : Reason)
    → image_at table own ≡ Some image → intact_entry image.request ≡ None
    → (reason ≡ Damaged → image.request ≡ request.Damaged → ⊥) → ReasonHolds table before own reason → ⊥
no_reason-other table before own image Damaged at none never holds =
    never refl (subst (λ found. IsSomeAnd found (λ image. image.request ≡ request.Damaged)) at holds)
no_reason-other table before own image Older at none never holds = unmet-other table own image _ at none holds
no_reason-other table before own image Counter at none never holds = unmet-other table own image _ at none holds
no_reason-other table before own image (NoSuchImage j) at none never holds = unmet-other table own image _ at none holds
no_reason-other table before own image (Needs j minimum) at none never holds =
    unmet-other table own image _ at none holds
no_reason-other table before own image (NeedsOne group) at none never holds =
    unmet-other table own image _ at none holds

-- No request is both missing and damaged.
pub none-damaged : (asked : Request) → asked ≡ request.None → asked ≡ request.Damaged → ⊥
none-damaged asked none damaged = false≢true (ap is_requested (sym none ∙ damaged))

-- No request is both intact and damaged.
pub damaged-intact : (asked : Request) (entry : Entry) → asked ≡ request.Damaged → asked ≡ request.Entry entry → ⊥
damaged-intact asked entry damaged is = none-some entry (ap intact_entry (sym damaged ∙ is))
