-- The result of a call that C reads beside the returned number.
use Rattle.std.specs.Prelude.{◌≡◌, ℕ, ◌+◌, ◌*◌, ◌<◌, ◌≤◌, Bool, List, [], ◌∷◌, length, replicate}
use Rattle.std.specs.Prelude.{slice_get, Some, if◌then◌else◌}
use Rattle.version_order.specs.declared.version.Version.{Version}
use Rattle.version_order.specs.declared.dependency.Dependency.{Dependency}
use Rattle.reports.specs.declared.report.Reason.{Reason}
use Rattle.reports.specs.declared.report.Reason.TheVariants.{Damaged, Older, Counter, NoSuchImage, Needs, NeedsOne}
use Rattle.reports.specs.declared.report.Refusal.{Refusal}
use Rattle.reports.specs.declared.report.Report.{Report}
use Rattle.reports.specs.declared.report.ReportedImage.{ReportedImage}
use Rattle.flash_model.specs.Codes as flash
use Rattle.manifest.specs.Codes as manifest
use Rattle.image_reading.specs.Codes as image
use Rattle.machine.specs.UploadCodes as upload
use Rattle.machine.specs.declared.upload_error.UploadError.TheVariants.{NotAnImage}
use Rattle.machine.specs.Codes.{code_of}
use Rattle.machine.specs.declared.error.Fault.{Fault}
use Rattle.machine.specs.declared.error.Fault.TheVariants.{Flash, Manifest, RunningDamaged, Upload}
use Rattle.machine.specs.declared.reply.Reply.{Reply}
use Rattle.machine.specs.declared.reply.Reply.TheVariants.{Done, Booted, Reverted, TrialAgain, Refused, Cut}
use Rattle.c_interface.specs.Numbers as numbers
use Rattle.c_interface.specs.declared.call_result.CallResult.{CallResult}
use Rattle.c_interface.specs.declared.call_result.DependencyRow.{DependencyRow}
use Rattle.c_interface.specs.declared.call_result.RefusalRow.{RefusalRow}
use Rattle.c_interface.specs.declared.call_result.VersionRow.{VersionRow}

-- A version as C has it.
abbrev pub version_row : Version → VersionRow
version_row version = record {
  major = version.major;
  minor = version.minor;
  revision = version.revision;
  build = version.build;
}

-- A dependency as C has it.
abbrev pub dependency_row : Dependency → DependencyRow
dependency_row dependency = record {
  image = dependency.image;
  minimum = version_row dependency.minimum;
}

-- No dependency: all zero.
abbrev pub no_version : Version
no_version = record { major = 0; minor = 0; revision = 0; build = 0 }

abbrev pub no_dependency : DependencyRow
no_dependency = record { image = 0; minimum = version_row no_version }

-- From a place on, all rows are blank.
abbrev pub IsBlankFrom : {T : Type 0} → ℕ → List T → T → Type 0
IsBlankFrom n rows blank = (k : ℕ) → n ≤ k → k < length rows → slice_get rows k ≡ Some blank

-- The rows of dependencies, and blank rows after them.
pub record AreDependencyRows (dependencies : List Dependency) (rows : List DependencyRow)
    : Type 0 where
  pub each : (k : ℕ) (dependency : Dependency) → slice_get dependencies k ≡ Some dependency
      → slice_get rows k ≡ Some (dependency_row dependency)
  pub rest : IsBlankFrom (length dependencies) rows no_dependency

-- The number of a reason.
abbrev pub reason_number : Reason → ℕ
reason_number Damaged = 1
reason_number Older = 2
reason_number Counter = 3
reason_number (NoSuchImage image) = 4
reason_number (Needs image minimum) = 5
reason_number (NeedsOne group) = 6

-- The images that a reason names.
abbrev pub dependencies_of : Reason → List Dependency
dependencies_of (NoSuchImage image) = record { image = image; minimum = no_version } ∷ []
dependencies_of (Needs image minimum) = record { image = image; minimum = minimum } ∷ []
dependencies_of (NeedsOne group) = group.alternatives.items
dependencies_of other = []

-- A refusal as C has it.
pub record IsRefusalRow (refusal : Refusal) (row : RefusalRow) : Type 0 where
  pub image : row.image ≡ refusal.image
  pub reason : row.reason ≡ reason_number refusal.reason
  pub count : row.count ≡ length (dependencies_of refusal.reason)
  pub dependencies : AreDependencyRows (dependencies_of refusal.reason) row.dependencies

-- No refusal: all zero.
abbrev pub no_refusal : RefusalRow
no_refusal = record { image = 0; reason = 0; count = 0; dependencies = replicate 4 no_dependency }

-- The rows of a report's versions, and blank rows after them.
pub record AreVersionRows (images : List ReportedImage) (rows : List VersionRow) : Type 0 where
  pub each : (k : ℕ) (image : ReportedImage) → slice_get images k ≡ Some image
      → slice_get rows k ≡ Some (version_row image.version)
  pub rest : IsBlankFrom (length images) rows (version_row no_version)

-- The rows of a report's refusals, and blank rows after them.
pub record AreRefusalRows (refusals : List Refusal) (rows : List RefusalRow) : Type 0 where
  pub each : (k : ℕ) (refusal : Refusal) → slice_get refusals k ≡ Some refusal
      → (row : RefusalRow) × (slice_get rows k ≡ Some row) × IsRefusalRow refusal row
  pub rest : IsBlankFrom (length refusals) rows no_refusal

-- The number whose bit j says whether the request of the j-th image is taken.
abbrev pub taken_mask : List ReportedImage → ℕ
taken_mask [] = 0
taken_mask (image ∷ images) = (if image.is_taken then 1 else 0) + 2 * taken_mask images

-- The result of a boot that decided, except for the counts of writes and the lengths of texts. The
-- fields of a fault and of a trial are 0.
pub record IsResultOfReport (report : Report) (is_permanent : Bool) (call_result : CallResult)
    : Type 0 where
  pub set : call_result.set ≡ taken_mask report.images.items
  pub permanent : call_result.permanent ≡ (if is_permanent then 1 else 0)
  pub images : call_result.images ≡ length report.images.items
  pub versions : AreVersionRows report.images.items call_result.versions
  pub refusals : call_result.refusals ≡ length report.refusals.items
  pub refused : AreRefusalRows report.refusals.items call_result.refused
  pub fault : call_result.fault ≡ 0
  pub detail : call_result.detail ≡ 0
  pub check : call_result.check ≡ 0
  pub left : call_result.left ≡ 0

-- The number of the error that caused a fault, or of the image that it names.
abbrev pub detail_of : Fault → ℕ
detail_of (RunningDamaged image) = image
detail_of (Flash error) = flash.code_of error
detail_of (Manifest error) = manifest.code_of error
detail_of (Upload error) = upload.code_of error
detail_of other = 0

-- The number of the first failed check of an image.
abbrev pub check_of : Fault → ℕ
check_of (Upload (NotAnImage check)) = image.code_of check
check_of other = 0

-- The result if no call was made: all zero.
abbrev pub no_result : CallResult
no_result = record {
  writes = 0;
  journal_length = 0;
  fault = 0;
  detail = 0;
  check = 0;
  set = 0;
  left = 0;
  permanent = 0;
  images = 0;
  refusals = 0;
  table_length = 0;
  report_length = 0;
  versions = replicate 8 (version_row no_version);
  refused = replicate 8 no_refusal;
}

-- All zero except for the number of writes that the call made, and of the bytes of a journal that
-- record them.
abbrev pub only_counts : ℕ → ℕ → CallResult
only_counts writes used = record no_result { writes = writes; journal_length = used }

-- The same, with the counts of this result.
abbrev pub only_counts_of : CallResult → CallResult
only_counts_of call_result = only_counts call_result.writes call_result.journal_length

-- The result of a refused call.
abbrev pub fault_result : Fault → ℕ → ℕ → CallResult
fault_result reason writes used = record (only_counts writes used) {
  fault = code_of reason;
  detail = detail_of reason;
  check = check_of reason;
}

-- The result of a call with this reply. A field that doesn't apply to it is 0, whatever the memory
-- held before.
abbrev pub IsResultOf : Reply → CallResult → Type 0
IsResultOf Done call_result = call_result ≡ only_counts_of call_result
IsResultOf (Booted table report permanent) call_result =
    IsResultOfReport report permanent call_result
IsResultOf (Reverted mask) call_result =
    call_result ≡ record (only_counts_of call_result) { set = mask }
IsResultOf (TrialAgain set left) call_result =
    call_result ≡ record (only_counts_of call_result) { set = set; left = left }
IsResultOf (Refused fault) call_result =
    call_result ≡ fault_result fault call_result.writes call_result.journal_length
IsResultOf Cut call_result = call_result ≡ only_counts_of call_result

-- A boot that decided has these lengths of texts, and any other call none.
abbrev pub HasTextLengths : Reply → ℕ → ℕ → CallResult → Type 0
HasTextLengths (Booted table report permanent) table_length report_length call_result =
    (call_result.table_length ≡ table_length) × (call_result.report_length ≡ report_length)
HasTextLengths other table_length report_length call_result = Unit {0}

-- The number that a call returns.
abbrev pub number_of : Reply → ℕ
number_of Done = numbers.DONE
number_of (Booted table report permanent) = numbers.BOOTED
number_of (Reverted mask) = numbers.REVERTED
number_of (TrialAgain set left) = numbers.TRIAL_AGAIN
number_of (Refused fault) = numbers.REFUSED
number_of Cut = numbers.CUT
