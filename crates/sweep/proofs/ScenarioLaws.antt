-- Runs of a scenario that grow by one event.
use Rattle.std.proofs.Common.{◌≡◌, ℕ, zero, suc, ◌+◌, ◌<◌, List, [], ◌∷◌, ◌++◌, ap, append-nil, append_assoc, arith, get_or, length, length-append, map, refl, replicate, subst, sym, take, ◌∙◌}
use Rattle.std.specs.Prelude.{Vec}
use Rattle.std.specs.List.{AllZip, range_with_len}
use Rattle.std.proofs.lemmas.List.{map-append, replicate-append-replicate, take-map, take_more}
use Rattle.common.proofs.Mapped.{AllZip-push}
use Rattle.machine.specs.declared.event.Event.{Event}
use Rattle.machine.specs.declared.event.Event.TheVariants as event
use Rattle.machine.specs.Event.{event_map}
use Rattle.flash_model.specs.Chip.{Chip}
use Rattle.sector_map.specs.declared.layout.SectorMap.{SectorMap}
use Rattle.version_order.specs.declared.version.Version.{Version}
use Rattle.flash_contents.specs.Holding.{DeviceView}
use Rattle.machine.specs.Intake.{Setup}
use Rattle.machine.specs.Steps.{DeviceEvent}
use Rattle.machine.specs.declared.reply.Reply.{Reply}
use Rattle.device_texts.specs.FlashOf.{armed_in, armed_of}
use Rattle.device_texts.specs.declared.flash.CutWrite.{CutWrite}
use Rattle.device_texts.proofs.TextLaws.{range-more}
use Rattle.sweep.specs.Cuts.{AreArmedFor, IsArmedFor, IsTorn}
use Rattle.sweep.specs.declared.cuts.TornWrite.{TornWrite}
use Rattle.sweep.proofs.CutRuns.{runs_join, runs_more, runs_none, runs_one}
use Rattle.sweep.specs.Scenario.{HasVersion, RunsEvents, RunsEvent, Reboots, RunsCut, StepsCut, held_in, borrowed_in, with_boots}

-- ---- boots

pub reboots_more : (setup same : Setup) (old mid new : DeviceView) (reply : Reply) → Reboots setup old mid
    → same ≡ setup → StepsCut same mid new event.Boot reply → Reboots setup old new
reboots_more setup same old mid new reply before is steps =
    let boot : DeviceEvent = event.Boot in
    record {
      count = before.count + 1;
      replies = before.replies ++ reply ∷ [];
      runs = subst (λ boots. RunsCut setup old new boots (before.replies ++ reply ∷ []))
          (replicate-append-replicate before.count 1 boot)
          (runs_more setup old mid new (replicate before.count boot) before.replies boot reply before.runs
          (subst (λ s. StepsCut s mid new boot reply) is steps));
    }

-- ---- one event

-- The event wasn't interrupted.
pub event_uncut : (setup : Setup) (old new : DeviceView) (happened : DeviceEvent) (reply : Reply)
    → StepsCut setup old new happened reply → RunsEvent setup old new happened
event_uncut setup old new happened reply steps = record {
  count = 0;
  replies = reply ∷ [];
  runs = runs_one setup old new happened reply steps;
}

-- The event was followed by boots.
pub event_and_reboots : (setup same : Setup) (old mid new : DeviceView) (happened : DeviceEvent) (reply : Reply)
    → StepsCut setup old mid happened reply → same ≡ setup → Reboots same mid new → RunsEvent setup old new happened
event_and_reboots setup same old mid new happened reply steps is reboots = record {
  count = reboots.count;
  replies = reply ∷ reboots.replies;
  runs = runs_join setup old mid new (happened ∷ []) (replicate reboots.count event.Boot) (reply ∷ []) reboots.replies
      (runs_one setup old mid happened reply steps)
      (subst (λ s. RunsCut s mid new (replicate reboots.count event.Boot) reboots.replies) is reboots.runs);
}

-- ---- many events

boots_borrowed : (count : ℕ) → borrowed_in (replicate count event.Boot) ≡ replicate count event.Boot
boots_borrowed zero = refl
boots_borrowed (suc count) = ap (λ boots. event.Boot ∷ boots) (boots_borrowed count)

with_boots-append : (given more : List (Event (List ℕ))) (counts others : List ℕ) → length counts ≡ length given
    → with_boots (given ++ more) (counts ++ others) ≡ with_boots given counts ++ with_boots more others
with_boots-append [] more [] others same = refl
with_boots-append [] more (n ∷ counts) others same = absurd (omega (arith, same))
with_boots-append (c ∷ given) more [] others same = absurd (omega (arith, same))
with_boots-append (c ∷ given) more (n ∷ counts) others same =
    ap (λ rest. c ∷ (replicate n event.Boot ++ rest)) (with_boots-append given more counts others (omega (arith, same)))
    ∙ ap (λ rest. c ∷ rest) (sym (append_assoc (replicate n event.Boot) (with_boots given counts) (with_boots more others)))

pub events_none : (setup : Setup) (here : DeviceView) → RunsEvents setup here here []
events_none setup here = record {
  counts = [];
  events = [];
  replies = [];
  each = refl;
  come = refl;
  runs = runs_none setup here;
}

pub events_join : (setup same : Setup) (old mid new : DeviceView) (given more : List (Event (List ℕ)))
    → RunsEvents setup old mid given → same ≡ setup → RunsEvents same mid new more → RunsEvents setup old new (given ++ more)
events_join setup same old mid new given more before is after = record {
  counts = before.counts ++ after.counts;
  events = before.events ++ after.events;
  replies = before.replies ++ after.replies;
  each = length-append before.counts after.counts ∙ ap (λ n. n + length after.counts) before.each
      ∙ ap (λ n. length given + n) after.each ∙ sym (length-append given more);
  come = map-append (event_map (λ bytes. bytes.now)) before.events after.events
      ∙ ap (λ l. l ++ borrowed_in after.events) before.come
      ∙ ap (λ l. with_boots given before.counts ++ l) after.come
      ∙ sym (with_boots-append given more before.counts after.counts before.each);
  runs = runs_join setup old mid new before.events after.events before.replies after.replies before.runs
      (subst (λ s. RunsCut s mid new after.events after.replies) is after.runs);
}

events_of_one : (setup : Setup) (old new : DeviceView) (happened : DeviceEvent) (given : Event (List ℕ))
    → event_map (λ bytes. bytes.now) happened ≡ given → RunsEvent setup old new happened → RunsEvents setup old new (given ∷ [])
events_of_one setup old new happened given is one = record {
  counts = one.count ∷ [];
  events = happened ∷ replicate one.count event.Boot;
  replies = one.replies;
  each = refl;
  come = ap (λ c. c ∷ borrowed_in (replicate one.count event.Boot)) is
      ∙ ap (λ boots. given ∷ boots) (boots_borrowed one.count ∙ sym (append-nil (replicate one.count event.Boot)));
  runs = one.runs;
}

-- The events so far have one more.
held_in-more : {A : Type 0} (all : List (Event (Vec ℕ A))) (i : ℕ) (read : Event (Vec ℕ A)) → i < length all
    → read ≡ get_or all i read
    → take (i + 1) (held_in all) ≡ take i (held_in all) ++ event_map (λ bytes. bytes.items) read ∷ []
held_in-more all i read below is =
    let next : take (i + 1) all ≡ take i all ++ read ∷ [] =
    take_more all i read below ∙ ap (λ e. take i all ++ e ∷ []) (sym is) in
    take-map (event_map (λ bytes. bytes.items)) (i + 1) all
    ∙ ap held_in next
    ∙ map-append (event_map (λ bytes. bytes.items)) (take i all) (read ∷ [])
    ∙ ap (λ l. l ++ event_map (λ bytes. bytes.items) read ∷ []) (sym (take-map (event_map (λ bytes. bytes.items)) i all))

pub events_more : {A : Type 0} (setup same : Setup) (old mid new : DeviceView) (all : List (Event (Vec ℕ A))) (i : ℕ)
    (read : Event (Vec ℕ A)) (happened : DeviceEvent) → RunsEvents setup old mid (take i (held_in all)) → i < length all
    → read ≡ get_or all i read
    → event_map (λ bytes. bytes.now) happened ≡ event_map (λ bytes. bytes.items) read
    → same ≡ setup → RunsEvent same mid new happened → RunsEvents setup old new (take (i + 1) (held_in all))
events_more setup same old mid new all i read happened before below is lent stays one =
    subst (λ given. RunsEvents setup old new given) (sym (held_in-more all i read below is))
    (events_join setup same old mid new (take i (held_in all)) _ before stays
    (events_of_one same mid new happened _ lent one))

-- ---- cuts

-- One more write is armed for its cut.
pub armed_for-more : (all : List TornWrite) (i : ℕ) (cut : TornWrite) (writes : List CutWrite) (one : CutWrite) → i < length all
    → cut ≡ get_or all i cut → AreArmedFor (take i all) (armed_in writes) → one.write ≡ cut.write
    → IsTorn cut.tear one.torn → AreArmedFor (take (i + 1) all) (armed_in (writes ++ one ∷ []))
armed_for-more all i cut writes one below is before number leaves =
    let armed : IsArmedFor cut (armed_of one) = record { number = number; leaves = leaves } in
    subst (λ cuts. AreArmedFor cuts (armed_in (writes ++ one ∷ [])))
    (sym (take_more all i cut below ∙ ap (λ c. take i all ++ c ∷ []) (sym is)))
    (subst (AreArmedFor (take i all ++ cut ∷ [])) (sym (map-append armed_of writes (one ∷ [])))
    (AllZip-push IsArmedFor (take i all) (armed_in writes) cut (armed_of one) before armed))

-- ---- what runs

pub versions_more : (map : SectorMap) (chip : Chip) (image : ℕ) (versions : List Version) (version : Version)
    → AllZip (HasVersion map chip) (range_with_len 0 image) versions → HasVersion map chip image version
    → AllZip (HasVersion map chip) (range_with_len 0 (image + 1)) (versions ++ version ∷ [])
versions_more map chip image versions version before has =
    subst (λ images. AllZip (HasVersion map chip) images (versions ++ version ∷ [])) (sym (range-more image))
    (AllZip-push (HasVersion map chip) (range_with_len 0 image) versions image version before has)
