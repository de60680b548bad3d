use Rattle.std.proofs.Common.{◌≡◌, arith, ◌+◌, ◌<◌, ◌≤◌, ℕ, Option, length, ap, refl, subst, sym, ◌∙◌, Err, Some, None, false, true≢false}
use Rattle.std.proofs.lemmas.Bool.{false≢true}
use Rattle.std.proofs.lemmas.Grind.{common_steps}
use Rattle.std.proofs.lemmas.Option.{same_Some, none-some}
use Rattle.flash_model.proofs.Ending.{uncut_refl, no_error}
use Rattle.flash_model.proofs.Frame.{same_outside_refl}
use Rattle.sector_map.specs.declared.layout.SectorMap.{SectorMap}
use Rattle.sector_map.proofs.Parts.{keeps_refl}
use Rattle.upload.specs.Sessions.{AllOpenAt, IsOpenAt, upload_at}
use Rattle.upload.specs.Standing.{HasCounts}
use Rattle.upload.specs.NoSession.{NotReady}
use Rattle.upload.specs.View.{view}
use Rattle.upload.specs.declared.sessions.Upload.{Upload}
use Rattle.machine.specs.declared.upload_error.UploadError.TheVariants as no
use Rattle.upload.proofs.Ends.{added_not, ends_flash, ends_read, ends_unstopped, ends_well, no_session_none, not_added, not_no_session, not_too_much, off_stops, stopped_not, too_much_none}
use Rattle.upload.proofs.Frames.{others_slot, with_others, with_with}
use Rattle.upload.proofs.OpenOnes.{open_more, open_none, open_nothing, open_to}
use Rattle.upload.proofs.PieceRow.{exceeds, has_session, too_long, no_room, piece_done, piece_cut, piece_more, piece_unmatched, steady_written, table_back, took_more, unwritten}
use Rattle.upload.proofs.Views.{view_kept}
use Rattle.upload.proofs.sessions.Uploads.piece.Goals as goal

-- The open upload of the image is the one that was taken out of the table.
few_taken : (told : Option Upload) (taken u : Upload) (n : ℕ) → Some taken ≡ told → told ≡ Some u
    → length u.held.items + n < 8 → length taken.held.items + n < 8
few_taken told taken u n here is few =
    subst (λ (v : Upload). length v.held.items + n < 8) (sym (same_Some _ _ (here ∙ is))) few

full_taken : (told : Option Upload) (taken u : Upload) (n : ℕ) → Some taken ≡ told → told ≡ Some u
    → 8 ≤ length u.held.items + n → 8 ≤ length taken.held.items + n
full_taken told taken u n here is full =
    subst (λ (v : Upload). 8 ≤ length v.held.items + n) (sym (same_Some _ _ (here ∙ is))) full

counts_taken : (map : SectorMap) (image written : ℕ) (told : Option Upload) (taken u : Upload) → Some taken ≡ told
    → told ≡ Some u → HasCounts map image written u → HasCounts map image written taken
counts_taken map image written told taken u here is counts =
    subst (λ (v : Upload). HasCounts map image written v) (sym (same_Some _ _ (here ∙ is))) counts

pub returns-then-not-has_room : goal.returns-then-not-has_room
returns-then-not-has_room g c =
    let map = c.args.map.now in
    let n = length c.args.bytes.now in
    let here = c.in-Some.ensures.value in
    let long = exceeds _ _ n _ c.has_room.ensures c.if-not-has_room.true in
    record {
      outside = keeps_refl _ _ _;
      range = λ u is. same_outside_refl _ _ _;
      all_open = open_to c.args.image _ _ c.args.self.now.sessions _ None
          (others_slot c.args.image _ _ (view_kept map _ _ _ (keeps_refl _ _ _))) c.take.ensures.rest
          (open_nothing c.args.image _);
      takes = tt;
      front = λ never. refl;
      rests = λ s rest. rest;
      none = λ none. absurd (none-some _ (sym (here ∙ none)));
      matched = λ u is stands no. absurd (too_much_none no);
      lacks = λ on lacking. absurd (has_session map _ _ n _ c.in-Some.upload here
          (λ fits enough never. too_long c.in-Some.upload n long fits) lacking);
      only_lacking = λ no. absurd (too_much_none no);
      more = λ u at long. refl;
      nothing = λ unstopped. refl;
      held = λ u is fits few. absurd (no_room _ _ n (here ∙ is) fits long);
      off = λ off u written is counts fits enough. absurd (no_room _ _ n (here ∙ is) fits long);
      too_much = λ is. c.take.ensures.rest;
      stays = λ is. absurd (too_much_none is);
      others = λ plain j away. with_others c.args.image j None _ _ away c.take.ensures.rest;
      closed = λ stopped. absurd (true≢false (sym stopped));
      row = piece_more c.args.image (view map (g.F.Flash.chip c.args.flash.now)) c.args.self.now.sessions _
          c.in-Some.upload c.args.bytes.now here c.take.ensures.rest long;
      erases = tt;
      journal = omega arith;
      ends = ends_unstopped _ _ _ refl (λ off. refl) (uncut_refl _);
    }

pub returns-in-Ok-true : goal.returns-in-Ok-true
returns-in-Ok-true g c =
    let map = c.args.map.now in
    let kept = view_kept map _ _ _ c.add_bytes.ensures.outside in
    let told = c.args.self.now.sessions in
    let here = c.in-Some.ensures.value in
    let fits = c.has_room.ensures.0 c.if-not-has_room.false in
    record {
      outside = c.add_bytes.ensures.outside;
      range = λ u is. rw (← same_Some _ _ (here ∙ is)) c.add_bytes.ensures.range;
      all_open = λ opens.
          let at = opens c.args.image c.in-Some.upload (sym here) in
          let more = c.in-Ok-true.ensures.ok c.in-Ok-true.field-0-test at.0 at.1 in
          open_to c.args.image _ (view map (g.F.Flash.chip c.add_bytes.new.flash)) told _ (Some _)
          (others_slot c.args.image _ _ kept)
          (with_with c.args.image None (Some _) told _ _ c.take.ensures.rest c.put.ensures.with)
          (open_more c.args.image _ _ (more.0, more.1)) opens;
      takes = took_more c.args.image _ (view map (g.F.Flash.chip c.add_bytes.new.flash)) told _ _
          c.in-Some.upload _ c.args.bytes.now here c.put.ensures.with (c.in-Ok-true.ensures.ok c.in-Ok-true.field-0-test);
      front = unwritten _ _ _ c.add_bytes.ensures.front;
      rests = steady_written map c.args.image _ _ c.add_bytes.ensures.outside c.add_bytes.ensures.front;
      none = λ none. absurd (none-some _ (sym (here ∙ none)));
      matched = λ u is stands no. absurd (no_error tt _ no);
      lacks = λ on lacking. absurd (has_session map _ _ (length c.args.bytes.now) _ c.in-Some.upload here
          (λ fits enough never. added_not _ c.in-Ok-true.field-0 refl c.in-Ok-true.field-0-test (c.in-Ok-true.ensures.unready on enough never))
          lacking);
      only_lacking = λ no. absurd (no_error tt _ no);
      more = λ u is long. absurd (no_room _ _ _ (sym (here ∙ is)) fits long);
      nothing = tt;
      held = λ u is fits few. (
        refl,
        (c.add_bytes.ensures.held (few_taken _ _ u _ here is few)).1,
      );
      off = λ off u written is counts fits enough. absurd (no_error _ _ (c.in-Ok-true.ensures.off off written
          (counts_taken map c.args.image written _ _ u here is counts)
          (full_taken _ _ u _ here is enough)));
      too_much = λ is. absurd (no_error tt _ is);
      stays = λ is. absurd (no_error tt _ is);
      others = λ plain j away. with_others c.args.image j (Some _) told _ away
          (with_with c.args.image None (Some _) told _ _ c.take.ensures.rest c.put.ensures.with);
      closed = λ stopped. absurd (true≢false (sym stopped));
      row = piece_done c.args.image _ _ kept told c.in-Some.upload here _ c.args.bytes.now _ _
          c.take.ensures.rest c.put.ensures.with fits (c.in-Ok-true.ensures.ok c.in-Ok-true.field-0-test);
      erases = c.in-Ok-true.ensures.erases;
      journal = c.add_bytes.ensures.journal;
      ends = ends_well _ _ _ _ c.in-Ok-true.ensures.ends;
    }

pub returns-in-Ok-false : goal.returns-in-Ok-false
returns-in-Ok-false g c =
    let map = c.args.map.now in
    let told = c.args.self.now.sessions in
    let here = c.in-Some.ensures.value in
    let fits = c.has_room.ensures.0 c.if-not-has_room.false in
    let refused = c.in-Ok-false.ensures.refused c.in-Ok-false.field-0-test in
    let back = table_back c.args.image told _ _ c.in-Some.upload _ here refused.0 c.take.ensures.rest
    c.put-in-Ok-false.ensures.with c.take.ensures.long c.put-in-Ok-false.ensures.long in
    let chip = g.F.Flash.chip c.args.flash.now in
    record {
      outside = c.add_bytes.ensures.outside;
      range = λ u is. rw (← same_Some _ _ (here ∙ is)) c.add_bytes.ensures.range;
      all_open = λ opens. subst (λ k. AllOpenAt (view map k) c.put-in-Ok-false.new.self.sessions) (sym refused.1)
          (subst (λ t. AllOpenAt (view map chip) t) (sym back) opens);
      takes = tt;
      front = λ never. refused.1;
      rests = steady_written map c.args.image _ _ c.add_bytes.ensures.outside c.add_bytes.ensures.front;
      none = λ none. absurd (none-some _ (sym (here ∙ none)));
      matched = λ u is stands no. absurd (false≢true (sym c.in-Ok-false.field-0-test ∙ c.in-Ok-false.ensures.matched
          (subst (λ (v : Upload). IsOpenAt (view map chip) c.args.image v) (sym (same_Some _ _ (here ∙ is))) stands)));
      lacks = λ on lacking. (refl, refused.1, back);
      only_lacking = λ no. let unready = c.in-Ok-false.ensures.only c.in-Ok-false.field-0-test in
          NotReady c.in-Some.upload (sym here) fits unready.0 unready.1;
      more = λ u is long. absurd (no_room _ _ _ (sym (here ∙ is)) fits long);
      nothing = λ unstopped. refused.1;
      held = λ u is fits few. absurd (not_added _ c.in-Ok-false.field-0 refl c.in-Ok-false.field-0-test (c.in-Ok-false.ensures.held
          (few_taken _ _ u _ here is few)).0);
      off = λ off u written is counts fits enough. absurd (no_error _ _ (c.in-Ok-false.ensures.off off written
          (counts_taken map c.args.image written _ _ u here is counts)
          (full_taken _ _ u _ here is enough)));
      too_much = λ is. absurd (no_session_none is);
      stays = λ is. back;
      others = λ plain j away. ap (λ t. upload_at t j) back;
      closed = λ stopped. absurd (true≢false (sym stopped));
      row = piece_unmatched c.args.image (view map chip) _ told _ c.in-Some.upload c.args.bytes.now here
          (λ stands. false≢true (sym c.in-Ok-false.field-0-test ∙ c.in-Ok-false.ensures.matched stands));
      erases = tt;
      journal = c.add_bytes.ensures.journal;
      ends = ends_read _ _ _ refl refused.1;
    }

pub returns-in-Err : goal.returns-in-Err
returns-in-Err g c =
    let map = c.args.map.now in
    let kept = view_kept map _ _ _ c.add_bytes.ensures.outside in
    let here = c.in-Some.ensures.value in
    let fits = c.has_room.ensures.0 c.if-not-has_room.false in
    record {
      outside = c.add_bytes.ensures.outside;
      range = λ u is. rw (← same_Some _ _ (here ∙ is)) c.add_bytes.ensures.range;
      all_open = λ opens. open_none _ _ c.close.ensures;
      takes = tt;
      front = unwritten _ _ _ c.add_bytes.ensures.front;
      rests = steady_written map c.args.image _ _ c.add_bytes.ensures.outside c.add_bytes.ensures.front;
      none = λ none. absurd (none-some _ (sym (here ∙ none)));
      matched = λ u is stands no. absurd (not_no_session c.in-Err.error no);
      lacks = λ on lacking. absurd (has_session map _ _ (length c.args.bytes.now) _ c.in-Some.upload here
          (λ fits enough never. no_error false _ (sym (c.in-Err.ensures.unready on enough never))) lacking);
      only_lacking = λ no. absurd (not_no_session c.in-Err.error no);
      more = λ u is long. absurd (no_room _ _ _ (sym (here ∙ is)) fits long);
      nothing = λ unstopped. absurd (true≢false unstopped);
      held = λ u is fits few. absurd (stopped_not _ c.in-Err.error refl (c.in-Err.ensures.held
          (few_taken _ _ u _ here is few)).0);
      off = λ off u written is counts fits enough. ap (λ error. Err (no.Flash error))
          (off_stops c.in-Err.error _ _ c.in-Err.ensures.ends off);
      too_much = λ is. absurd (not_too_much c.in-Err.error is);
      stays = λ is. absurd (not_no_session c.in-Err.error is);
      others = λ plain. absurd (true≢false plain);
      closed = λ stopped. c.close.ensures;
      row = piece_cut c.args.image _ _ kept c.args.self.now.sessions c.in-Some.upload here
          c.args.bytes.now c.in-Err.error _ c.close.ensures fits;
      erases = tt;
      journal = c.add_bytes.ensures.journal;
      ends = ends_flash c.in-Err.error _ _ c.in-Err.ensures.ends;
    }

pub returns-in_default : goal.returns-in_default
returns-in_default g c = grind (arith, common_steps)
