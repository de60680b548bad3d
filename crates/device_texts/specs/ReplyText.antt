-- The texts of a device's replies.
use Rattle.std.specs.Prelude.{ℕ, ◌+◌, Bool, List, [], ◌∷◌, ◌++◌, codes, decimal, if◌then◌else◌}
use Rattle.std.specs.List.{flat_map, list_any, range_with_len}
use Rattle.common.specs.Limits.{MOST_IMAGES}
use Rattle.common.specs.Lines.{◌␣◌}
use Rattle.common.specs.Masks.{is_member}
use Rattle.image_reading.specs.Codes as image
use Rattle.manifest.specs.Codes as manifest
use Rattle.machine.specs.declared.upload_error.UploadError.{UploadError}
use Rattle.machine.specs.declared.upload_error.UploadError.TheVariants.{NotAnImage}
use Rattle.machine.specs.UploadCodes as upload
use Rattle.reports.specs.declared.report.Report.{Report}
use Rattle.reports.specs.declared.report.ReportedImage.{ReportedImage}
use Rattle.reports.specs.ReportText.{report_text}
use Rattle.machine.specs.declared.error.Fault.{Fault}
use Rattle.machine.specs.declared.error.Fault.TheVariants.{RunningDamaged, Manifest, Upload}
use Rattle.machine.specs.Codes as boot
use Rattle.machine.specs.declared.reply.Reply.{Reply}
use Rattle.machine.specs.declared.reply.Reply.TheVariants.{Done, Booted, Reverted, TrialAgain, Refused, Cut}
use Rattle.device_texts.specs.AnswerText.{line_text}

-- A space and the number of the image, if the image is in the set. Else nothing.
abbrev pub member_text : ℕ → ℕ → List ℕ
member_text set image = if is_member set image then 32 ∷ decimal image else []

-- The images of a set in ascending order, each after a space.
unfoldable pub set_text : ℕ → List ℕ
set_text set = flat_map (member_text set) (range_with_len 0 MOST_IMAGES)

-- A refusal: the word of the layer that refused, the number and the name.
abbrev pub group_text : List ℕ → ℕ → List ℕ → List ℕ
group_text group code name = group ␣ decimal code ␣ name

-- Why an upload is refused. The number of the check that the bytes fail follows `NotAnImage`.
abbrev pub upload_text : UploadError → List ℕ
upload_text (NotAnImage fault) =
    group_text (codes "upload")
    (upload.code_of (NotAnImage fault)) (upload.name_of (NotAnImage fault))
    ␣ decimal (image.code_of fault)
upload_text error = group_text (codes "upload") (upload.code_of error) (upload.name_of error)

-- Why a call of a device is refused. The image that is damaged follows `RunningDamaged`.
abbrev pub fault_text : Fault → List ℕ
fault_text (Manifest error) =
    group_text (codes "manifest") (manifest.code_of error) (manifest.name_of error)
fault_text (Upload error) = upload_text error
fault_text (RunningDamaged image) =
    group_text (codes "boot")
    (boot.code_of (RunningDamaged image)) (boot.name_of (RunningDamaged image))
    ␣ decimal image
fault_text fault = group_text (codes "boot") (boot.code_of fault) (boot.name_of fault)

-- A refusal of a device, as a line.
abbrev pub refused_fault_text : Fault → List ℕ
refused_fault_text fault = line_text (codes "refused") (fault_text fault)

-- Whether the request of at least one image is taken.
abbrev pub is_some_taken : List ReportedImage → Bool
is_some_taken images = list_any (λ image. image.is_taken) images

-- The decision of a boot with a report: `plain` if it took no request, `permanent` if what it took
-- is permanent, else `trial`.
abbrev pub decision_text : Report → Bool → List ℕ
decision_text report permanent =
    if is_some_taken report.images.items
    then if permanent then codes "permanent" else codes "trial"
    else codes "plain"

-- The text of the reply to the n-th event. The lines of a report follow the line of its boot.
abbrev pub reply_text : ℕ → Reply → List ℕ
reply_text n Done = line_text (decimal n) (codes "done")
reply_text n (Booted table report permanent) =
    line_text (decimal n) (decision_text report permanent) ++ report_text report
reply_text n (Reverted set) = line_text (decimal n) (codes "reverted" ++ set_text set)
reply_text n (TrialAgain set left) =
    line_text (decimal n) ((codes "trial-again" ++ set_text set) ␣ codes "left" ␣ decimal left)
reply_text n (Refused fault) = line_text (decimal n) (codes "refused" ␣ fault_text fault)
reply_text n Cut = line_text (decimal n) (codes "cut")

-- The texts of replies to events that are numbered from n on.
abbrev pub replies_text : ℕ → List Reply → List ℕ
replies_text n [] = []
replies_text n (reply ∷ replies) = reply_text n reply ++ replies_text (n + 1) replies
