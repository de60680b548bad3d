-- Lemmas for a manifest that is accepted or declined: what the calls below left, of the device.
use Rattle.std.proofs.Common.{◌≡◌, ◌<◌, length, ℕ, Bool, false, true, List, Option, Result, Ok, Err, ap, arith, refl, subst, sym}
use Rattle.std.specs.Borrow.{Bor}
use Rattle.std.specs.Prelude.{IsErrAnd}
use Rattle.machine.specs.declared.event.Event.TheVariants as event
use Rattle.flash_model.proofs.Ending.{no_error}
use Rattle.flash_model.specs.Chip.{Chip}
use Rattle.sector_map.specs.declared.layout.SectorMap.{SectorMap}
use Rattle.sector_map.specs.Map.{IsLaidOut}
use Rattle.sector_map.specs.Part.{any_part}
use Rattle.sector_map.proofs.Parts.{keeps_refl, laid_out_kept}
use Rattle.manifest.specs.Fault.{IsManifest}
use Rattle.manifest.specs.Manifest.{NamesEachOnce, NamesImages}
use Rattle.manifest.specs.declared.error.ManifestError.{ManifestError}
use Rattle.manifest.specs.declared.error.ManifestError.TheVariants.{BadValue, NoComponent, RepeatedComponent}
use Rattle.manifest.specs.declared.identity.Identity.{Identity}
use Rattle.manifest.specs.declared.manifest.Manifest as given
use Rattle.machine.specs.Accepted.{Accepts}
use Rattle.upload.specs.Accepted.{accepted_parts}
use Rattle.upload.specs.Accepting.{AcceptsManifest}
use Rattle.machine.specs.Device.{Machine}
use Rattle.upload.specs.Sessions.{AllOpenAt}
use Rattle.upload.specs.View.{view}
use Rattle.upload.specs.declared.sessions.Upload.{Upload}
use Rattle.machine.specs.declared.upload_error.UploadError.{UploadError}
use Rattle.flash_contents.specs.Holding.{DeviceView}
use Rattle.machine.specs.Intake.{Row}
use Rattle.flash_contents.specs.Passing.{StepsTo}
use Rattle.machine.specs.declared.error.Fault.{Fault}
use Rattle.machine.specs.declared.error.Fault.TheVariants as no
use Rattle.machine.specs.declared.reply.Reply.TheVariants.{Done, Refused}
use Rattle.flash_contents.proofs.Uploading.{steps_accept, upload_refused}
use Rattle.boot_core.specs.Answers.{IsOff, is_stop}
use Rattle.boot_core.specs.Device.{made, seen}
use Rattle.boot_core.specs.Ready.{HasNoComponent, RefusesManifest, RefusesText}
use Rattle.boot_core.specs.Taking.{AcceptsHere, AsksReady, CanOpen, Named, OpensUploads, PassesOn, RefusesByLog, TakesManifestHere}
use Rattle.boot_core.specs.Taking.{Untouched}
use Rattle.boot_core.proofs.Given.{held_down, held_failed, held_up, not_ready_told, ready_not, rest_refuses}
use Rattle.boot_core.proofs.Keeping.{all_stays, own_error}
use Rattle.boot_core.proofs.NotReady.{declined_all, declines, not_down, refused_after, stops}
use Rattle.boot_core.proofs.OnMap.{keeps_any}
use Rattle.boot_core.proofs.Stopping.{accept_down, done_ends, failed, failed_ends, idle_ends, not_ready, not_tried, opens_stopped}
use Rattle.boot_core.proofs.Taken.{IsReadyAt, laid_now, opens_now, ready_now}
use Rattle.boot_core.proofs.Texts.{text_ends, text_steps}

-- ---- no uploads are taken now

module _ (map : SectorMap) (identity : Identity) (old new : DeviceView) (fault : Fault)
    (asks : AsksReady map old new (Err fault)) (laid : IsLaidOut map old.flash)
    (opens : AllOpenAt (view map old.flash) old.sessions) where
  all_left : is_stop fault ≡ false → seen new.flash new.sessions new.up ≡ seen old.flash old.sessions old.up
  all_left = declined_all map old.flash new.flash old.sessions new.sessions old.up new.up fault fault asks.asked asks.stops

  manifest_declines : (manifest : given.Manifest) → TakesManifestHere map identity manifest old new (Err fault)
  manifest_declines manifest =
      let stopped = stops fault fault old.sessions new.sessions old.up new.up asks.stops in
      let declined = declines map old.flash new.flash old.sessions new.sessions old.up new.up fault fault asks.asked
      asks.stops (accepted_parts manifest.components.items) (event.Withdraw 0) refl refl laid in
      record {
        taken = record {
          laid = declined.laid;
          opens = declined.opens opens;
          steps = λ boots text on means. not_ready (made map identity boots) old.flash new.flash old.sessions
              new.sessions old.up new.up (event.Accept text) refl refl asks.asked.same fault fault refl asks.asked.ready
              on stopped;
          holds = λ on m held.
              let after = not_ready (made map identity 1) old.flash new.flash old.sessions new.sessions old.up new.up
              (event.Withdraw 0) refl refl asks.asked.same fault fault refl asks.asked.ready on stopped m held in
              (after.0, after.2);
          outside = declined.outside;
          refused = declined.refused;
          kept = all_left;
          told = not_ready_told identity manifest _ _ _ fault asks.asked.ready;
          journal = omega (arith, ap (λ (chip : Chip). chip.journaled) asks.asked.same);
          ends = declined.ends;
        };
        down = declined.down;
        unready = declined.unready;
        lacks = λ on up rests more. absurd (ready_not _ _ _ fault asks.asked.ready on up rests);
        repeats = λ on up rests names twice. absurd (ready_not _ _ _ fault asks.asked.ready on up rests);
        empty = λ on up rests none. absurd (ready_not _ _ _ fault asks.asked.ready on up rests);
        off = declined.off;
      }

  text_declines : (text : Bor (List ℕ)) → AcceptsHere map identity text old new (Err fault)
  text_declines text =
      let declined = declines map old.flash new.flash old.sessions new.sessions old.up new.up fault fault asks.asked
      asks.stops any_part (event.Accept text) refl refl laid in
      record {
        laid = declined.laid;
        opens = declined.opens opens;
        steps = declined.steps identity;
        outside = declined.outside;
        named = Untouched asks.asked.same;
        down = declined.down;
        unready = declined.unready;
        refused = declined.refused;
        kept = all_left;
        off = declined.off;
        ends = declined.ends;
      }

  pub manifest_declined : (manifest : given.Manifest) (result : Result Unit Fault)
      → IsErrAnd result (λ passed. passed ≡ fault) → TakesManifestHere map identity manifest old new result
  manifest_declined manifest (Ok done) passed = absurd passed
  manifest_declined manifest (Err given) passed =
      subst (λ f. TakesManifestHere map identity manifest old new (Err f)) (sym passed) (manifest_declines manifest)

  pub text_declined : (text : Bor (List ℕ)) (result : Result Unit Fault) → IsErrAnd result (λ passed. passed ≡ fault)
      → AcceptsHere map identity text old new result
  text_declined text (Ok done) passed = absurd passed
  text_declined text (Err given) passed =
      subst (λ f. AcceptsHere map identity text old new (Err f)) (sym passed) (text_declines text)

-- ---- uploads are taken

module _ (map : SectorMap) (identity : Identity) (before after : DeviceView)
    (asks : AsksReady map before after (Ok tt)) where
  never_off : (result : Result Unit Fault) (new : DeviceView) → before.up ≡ true → before.flash.is_on ≡ false
      → IsOff result before.flash new.flash
  never_off result new up off = absurd (no_error tt _ (asks.asked.off up off))

  never_unready : (result : Result Unit Fault) (new : DeviceView) → RefusesByLog map before new result
  never_unready result new up powered why refuses = absurd (rest_refuses _ why asks.asked.ready.1 refuses)

  -- The manifest is refused for its components, and no text has its meaning. Nothing is touched.
  refused_untouched : (manifest : given.Manifest) (error : ManifestError)
      → RefusesManifest identity manifest (no.Manifest error)
      → ((text : Bor (List ℕ)) → IsManifest identity text.now manifest → ⊥) → IsLaidOut map before.flash
      → AllOpenAt (view map before.flash) before.sessions
      → OpensUploads map identity manifest before before (Err (no.Manifest error))
  refused_untouched manifest error refuses meant laid opens = record {
    laid = laid;
    opens = opens;
    steps = λ boots text on means. absurd {A = StepsTo (made map identity boots) before before (event.Accept text)
        (Refused (no.Manifest error))} (meant text means);
    holds = λ on m held. (m, held);
    outside = keeps_refl map (accepted_parts manifest.components.items) before.flash;
    refused = λ own. refl;
    kept = λ own. refl;
    told = refuses;
    journal = omega arith;
    ends = idle_ends before.flash before.flash before.sessions before.sessions before.up before.up
        (Refused (no.Manifest error)) refl refl refl;
  }

  -- The manifest names an image that the device lacks.
  pub manifest_lacks : (manifest : given.Manifest) → (NamesImages identity manifest → ⊥) → IsLaidOut map before.flash
      → AllOpenAt (view map before.flash) before.sessions
      → TakesManifestHere map identity manifest before after (Err (no.Manifest NoComponent))
  manifest_lacks manifest lacks laid opens =
      subst (λ at. TakesManifestHere map identity manifest before at (Err (no.Manifest NoComponent))) (sym asks.taken)
      (record {
        taken = refused_untouched manifest NoComponent lacks (λ text means. lacks means.meaning.images) laid opens;
        down = not_down (Err (no.Manifest NoComponent)) before before asks.asked.ready.0;
        unready = never_unready (Err (no.Manifest NoComponent)) before;
        lacks = λ on up rests more. (refl, refl);
        repeats = λ on up rests names twice. absurd (lacks names);
        empty = λ on up rests none. absurd (lacks (λ k e within. absurd (omega (arith, within, none))));
        off = never_off (Err (no.Manifest NoComponent)) before;
      })

  -- The device has each image of the manifest, and the manifest names one twice.
  pub manifest_repeats : (manifest : given.Manifest) → NamesImages identity manifest → (NamesEachOnce manifest → ⊥)
      → IsLaidOut map before.flash → AllOpenAt (view map before.flash) before.sessions
      → TakesManifestHere map identity manifest before after (Err (no.Manifest RepeatedComponent))
  manifest_repeats manifest names twice laid opens =
      subst (λ at. TakesManifestHere map identity manifest before at (Err (no.Manifest RepeatedComponent)))
      (sym asks.taken) (record {
        taken = refused_untouched manifest RepeatedComponent (names, twice) (λ text means. twice means.meaning.once) laid
            opens;
        down = not_down (Err (no.Manifest RepeatedComponent)) before before asks.asked.ready.0;
        unready = never_unready (Err (no.Manifest RepeatedComponent)) before;
        lacks = λ on up rests more. absurd (more names);
        repeats = λ on up rests present again. (refl, refl);
        empty = λ on up rests none. absurd (twice (λ i j e before within. absurd (omega (arith, within, none))));
        off = never_off (Err (no.Manifest RepeatedComponent)) before;
      })

  -- The manifest has no component.
  pub manifest_empty : (manifest : given.Manifest) → NamesImages identity manifest → NamesEachOnce manifest
      → HasNoComponent manifest → IsLaidOut map before.flash → AllOpenAt (view map before.flash) before.sessions
      → TakesManifestHere map identity manifest before after (Err (no.Manifest BadValue))
  manifest_empty manifest names once none laid opens =
      subst (λ at. TakesManifestHere map identity manifest before at (Err (no.Manifest BadValue)))
      (sym asks.taken) (record {
        taken = refused_untouched manifest BadValue none
            (λ text means. let some : 0 < length manifest.components.items = means.meaning.spelled.some in
            omega (arith, some, none)) laid opens;
        down = not_down (Err (no.Manifest BadValue)) before before asks.asked.ready.0;
        unready = never_unready (Err (no.Manifest BadValue)) before;
        lacks = λ on up rests more. absurd (more names);
        repeats = λ on up rests present twice. absurd (twice once);
        empty = λ on up rests no_one. (refl, refl);
        off = never_off (Err (no.Manifest BadValue)) before;
      })

  pub can_open : (manifest : given.Manifest) → IsLaidOut map before.flash → identity.images ≡ map.images
      → AllOpenAt (view map before.flash) before.sessions → NamesImages identity manifest
      → CanOpen map identity manifest after
  can_open manifest laid images opens names =
      let ready = ready_now map before after asks in
      record {
        laid_out = laid_now map before after asks laid;
        images = images;
        opens = opens_now map before after asks opens;
        up = ready.0;
        rests = ready.1;
        names = names;
      }

  opened_before : (manifest : given.Manifest) (new : DeviceView) (result : Result Unit Fault)
      → OpensUploads map identity manifest after new result → OpensUploads map identity manifest before new result
  opened_before manifest new result opened =
      subst (λ at. OpensUploads map identity manifest at new result) asks.taken opened

  pub manifest_opened : (manifest : given.Manifest) (new : DeviceView) (result : Result Unit Fault)
      → NamesImages identity manifest → NamesEachOnce manifest → (HasNoComponent manifest → ⊥)
      → OpensUploads map identity manifest after new result
      → TakesManifestHere map identity manifest before new result
  manifest_opened manifest new result names once some opens = record {
    taken = opened_before manifest new result opens;
    down = not_down result before new asks.asked.ready.0;
    unready = never_unready result new;
    lacks = λ on up rests more. absurd (more names);
    repeats = λ on up rests present twice. absurd (twice once);
    empty = λ on up rests none. absurd (some none);
    off = never_off result new;
  }

  pub text_opened : (text : Bor (List ℕ)) (manifest : given.Manifest) (new : DeviceView) (result : Result Unit Fault)
      → IsManifest identity text.now manifest → OpensUploads map identity manifest after new result
      → AcceptsHere map identity text before new result
  text_opened text manifest new result means opens =
      let opened = opened_before manifest new result opens in
      record {
        laid = opened.laid;
        opens = opened.opens;
        steps = λ boots on. opened.steps boots text on means;
        outside = keeps_any opened.outside;
        named = Named manifest means opened.outside opened.journal;
        down = not_down result before new asks.asked.ready.0;
        unready = never_unready result new;
        refused = opened.refused;
        kept = opened.kept;
        off = never_off result new;
        ends = opened.ends;
      }

  text_refuses : (text : Bor (List ℕ)) (fault : Fault) → RefusesText identity text.now fault
      → IsLaidOut map before.flash → AllOpenAt (view map before.flash) before.sessions
      → AcceptsHere map identity text before before (Err fault)
  text_refuses text fault refuses laid opens =
      let ready = asks.asked.ready in
      record {
        laid = laid;
        opens = opens;
        steps = λ boots on. text_steps (made map identity boots) before.flash before.flash before.sessions before.up
            ready.1.0 ready.0 ready.1.1 (not_tried _ ready.1.2) text refl fault refuses;
        outside = keeps_refl map any_part before.flash;
        named = Untouched refl;
        down = not_down (Err fault) before before ready.0;
        unready = never_unready (Err fault) before;
        refused = λ own. refl;
        kept = λ own. refl;
        off = never_off (Err fault) before;
        ends = text_ends identity text.now before.flash before.flash before.sessions before.up refl fault refuses;
      }

  -- A text that isn't a manifest for the device.
  pub text_refused_here : (text : Bor (List ℕ)) (fault : Fault) (result : Result Unit Fault)
      → RefusesText identity text.now fault → IsErrAnd result (λ passed. passed ≡ fault) → IsLaidOut map before.flash
      → AllOpenAt (view map before.flash) before.sessions → AcceptsHere map identity text before after result
  text_refused_here text fault (Ok done) refuses passed laid opens = absurd passed
  text_refused_here text fault (Err given) refuses passed laid opens =
      subst (λ at. AcceptsHere map identity text before at (Err given)) (sym asks.taken)
      (text_refuses text given (subst (RefusesText identity text.now) (sym passed) refuses) laid opens)

-- ---- uploads are opened

module _ (map : SectorMap) (identity : Identity) (manifest : given.Manifest) (old new : Chip)
    (told tmid tnew : List (Option Upload)) (up upn : Bool) (laid : IsLaidOut map old)
    (opens : AllOpenAt (view map old) told) (ready : IsReadyAt map (seen old told up)) where
  abbrev row : Machine → Row
  row m = Accepts map m manifest.sequence manifest.components.items

  pub opens_passed : (taken : Result Unit UploadError) (result : Result Unit Fault)
      → AcceptsManifest map manifest told tmid old new taken → PassesOn taken tmid up tnew upn result
      → OpensUploads map identity manifest (seen old told up) (seen new tnew upn) result
  opens_passed (Ok done) (Ok passed) accepts (same, awake) =
      let after : seen new tmid up ≡ seen new tnew upn = cc in
      subst (λ at. OpensUploads map identity manifest (seen old told up) at (Ok passed)) after (record {
        laid = laid_out_kept map (accepted_parts manifest.components.items) old new laid accepts.outside;
        opens = accepts.all_open opens;
        steps = λ boots text on means. steps_accept (made map identity boots) old told up ready.1.0 ready.0 ready.1.1
            (not_tried _ ready.1.2) new tmid text manifest (Ok tt) Done refl refl means accepts.row;
        holds = λ on. held_up map old new told tmid up ready.0 ready.1 row (Ok tt) accepts.row;
        outside = accepts.outside;
        refused = tt;
        kept = tt;
        told = tt;
        journal = accepts.journal;
        ends = done_ends old old new told tmid up refl accepts.ends;
      })
  opens_passed (Ok done) (Err fault) accepts passed = absurd passed
  opens_passed (Err error) (Ok done) accepts passed = absurd passed
  opens_passed (Err error) (Err fault) accepts passed =
      let stopped = stops (no.Upload error) fault tmid tnew up upn passed in
      let same = refused_after old old new error fault passed.is refl accepts.nothing in
      record {
        laid = laid_out_kept map (accepted_parts manifest.components.items) old new laid accepts.outside;
        opens = opens_stopped (view map new) (no.Upload error) tmid tnew up upn stopped (accepts.all_open opens);
        steps = λ boots text on means.
            let setup = made map identity boots in
            failed setup old new told tmid tnew up upn (event.Accept text) error on accepts.ends stopped
            (λ none cut. accept_down setup old new told tnew up ready.0 none ready.1.0 tmid (Err error) ready.1.1 (not_tried _ ready.1.2)
            (ap (λ e. Err e) cut) text manifest means accepts.row)
            (λ own. steps_accept setup old told up ready.1.0 ready.0 ready.1.1 (not_tried _ ready.1.2) new tmid text manifest (Err error)
            (Refused (no.Upload error)) (upload_refused error own) own means accepts.row)
            fault passed.is;
        holds = λ on. held_failed map (seen old told up) old new tmid tnew up upn error on accepts.ends stopped
            (λ none. held_down map old new told tmid up ready.0 ready.1 row (Err error) accepts.row tnew none)
            (held_up map old new told tmid up ready.0 ready.1 row (Err error) accepts.row);
        outside = accepts.outside;
        refused = same;
        kept = λ own. all_stays old old new told tmid tnew up upn (no.Upload error) fault passed.is stopped (same own)
            (accepts.stays (own_error error fault passed.is own)) own;
        told = subst (λ f. RefusesManifest identity manifest f) (sym passed.is) tt;
        journal = accepts.journal;
        ends = failed_ends old old new told tmid tnew up upn error refl accepts.ends stopped fault passed.is;
      }
