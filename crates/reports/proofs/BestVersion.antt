-- The best version that a request can still get is at least the one in a valid combination.
use Rattle.std.proofs.Common.{◌≡◌, Bool, true, false, cond, Option, Some, None, refl}
use Rattle.std.specs.Prelude.{unwrap_or}
use Rattle.std.specs.Option.{option_map_or}
use Rattle.std.proofs.lemmas.Bool.{false≢true, true≢false, cond_both, not_from_false}
use Rattle.version_order.specs.declared.version.Version.{Version}
use Rattle.version_order.specs.Order.{is_older, IsAtLeast}
use Rattle.reports.specs.declared.table.Entry.{Entry}
use Rattle.version_order.proofs.OrderLaws.{IsAtLeast_refl, IsAtLeast-from_older}

-- The version of the requested entry, or else the running version.
abbrev pub version_of_request : Option Entry → Entry → Version
version_of_request requested running = option_map_or (λ entry. entry.version) requested running.version

-- The newer of the running version and that of the requested entry.
abbrev pub newer_version : Option Entry → Entry → Version
newer_version requested running = option_map_or (λ entry. cond
    (is_older running.version entry.version) entry.version running.version) requested running.version

-- The requested version is that of the requested entry.
version_of_request-at_least : (requested : Option Entry) (running : Entry)
    → IsAtLeast (version_of_request requested running) (unwrap_or requested running).version
version_of_request-at_least None running = IsAtLeast_refl running.version
version_of_request-at_least (Some entry) running = IsAtLeast_refl entry.version

-- The newer version is at least the running one.
newer_version-at_least_running : (requested : Option Entry) (running : Entry)
    → IsAtLeast (newer_version requested running) running.version
newer_version-at_least_running None running = IsAtLeast_refl running.version
newer_version-at_least_running (Some entry) running =
    cond_both (is_older running.version entry.version) entry.version running.version
    (λ v. IsAtLeast v running.version) (λ older. IsAtLeast-from_older entry.version running.version older)
    (λ _. IsAtLeast_refl running.version)

-- The newer version is at least the requested one.
newer_version-at_least_requested : (requested : Option Entry) (running : Entry)
    → IsAtLeast (newer_version requested running) (unwrap_or requested running).version
newer_version-at_least_requested None running = IsAtLeast_refl running.version
newer_version-at_least_requested (Some entry) running =
    cond_both (is_older running.version entry.version) entry.version running.version
    (λ v. IsAtLeast v entry.version) (λ _. IsAtLeast_refl entry.version) (λ older. not_from_false _ older)

-- This holds whatever is a member, if the request's own image is and no member is refused.
pub best-at_least : (requested : Option Entry) (running : Entry) (is_own is_refused is_member : Bool)
    → (is_own ≡ true → is_member ≡ true) → (is_member ≡ true → is_refused ≡ false)
    → IsAtLeast (cond is_own (version_of_request requested running)
    (cond is_refused running.version (newer_version requested running)))
    (cond is_member (unwrap_or requested running) running).version
best-at_least requested running true is_refused true own member = version_of_request-at_least requested running
best-at_least requested running true is_refused false own member = absurd (false≢true (own refl))
best-at_least requested running false true true own member = absurd (true≢false (member refl))
best-at_least requested running false false true own member = newer_version-at_least_requested requested running
best-at_least requested running false true false own member = IsAtLeast_refl running.version
best-at_least requested running false false false own member = newer_version-at_least_running requested running
