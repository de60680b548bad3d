-- The state on a flash depends only on its bytes. The state of a device depends only on these and on its saved state.
use Rattle.std.proofs.Common.{◌≡◌, ℕ, ◌+◌, ◌*◌, Bool, true, false, List, length, slice_range, Option, Some, None, refl, sym, ◌∙◌, ap, subst, inl, inr, arith}
use Rattle.std.proofs.lemmas.Bool.{true≢false}
use Rattle.flash_model.specs.Chip.{Chip, Fixed, SectorIs}
use Rattle.sector_map.specs.declared.layout.SectorMap.{SectorMap}
use Rattle.sector_map.specs.declared.layout.Side.{Side}
use Rattle.sector_map.specs.declared.layout.Side.TheVariants.{Primary, Secondary}
use Rattle.sector_map.specs.Part.{Part, Slot, TrailerOf, Log, only}
use Rattle.sector_map.specs.Map.{IsLaidOut, Keeps, count_of, first_of, part_of, slot_sectors, start_of}
use Rattle.sector_map.proofs.Parts.{keeps_bytes}
use Rattle.trailer.specs.Fields.{fields_at, fields_in}
use Rattle.swap_scratch.specs.Place.{IsBetween, IsImagePlace, IsPartway, Sectors}
use Rattle.swap_scratch.specs.Swap.{IsSwapAt}
use Rattle.swap_scratch.specs.Used.{used_of}
use Rattle.set_log.specs.Log.{state_of}
use Rattle.reports.specs.declared.table.Table.{Table}
use Rattle.upload.specs.View.{view}
use Rattle.machine.specs.Device.{DeviceState, Machine, Session, Trial}
use Rattle.upload.specs.Sessions.{AllClosed, HasSession, IsUploadAt, IsWritten, session_of, upload_at}
use Rattle.upload.specs.declared.sessions.Upload.{Upload}
use Rattle.upload.proofs.Views.{view_kept}
use Rattle.flash_contents.specs.Holding.{DeviceView, Holds, IsAtRest, IsSwapping, IsSwappingBack, Stands, Rests, Tries, Swaps, Settles, Opens, SwapsBack}
use Rattle.flash_contents.specs.Holding.{SettlesBack}
use Rattle.flash_contents.proofs.Frames.{steady_logged}
use Rattle.flash_contents.proofs.Trying.{again_same}
use Rattle.flash_contents.proofs.Stepping.{stands_logged}

-- Two flashes have the same bytes in the same sectors.
pub record SameFlash (old new : Chip) : Type 0 where
  pub sector_size : new.sector_size ≡ old.sector_size
  pub sectors : new.sectors ≡ old.sectors
  pub bytes : new.bytes ≡ old.bytes

-- ---- the fixed part of a flash

abbrev with_fixed : Chip → Fixed → Chip
with_fixed chip fixed = record chip { fixed = fixed }

module _ (chip : Chip) (fixed : Fixed) where
  sector_fixed : (sector : ℕ) (contents : ℕ → ℕ) → SectorIs (with_fixed chip fixed) sector contents
      → SectorIs chip sector contents
  sector_fixed sector contents was = record { each = was.each }

  between_fixed : (step primary secondary scratch : ℕ) (first second : ℕ → ℕ)
      → IsBetween (with_fixed chip fixed) step primary secondary scratch first second
      → IsBetween chip step primary secondary scratch first second
  between_fixed step primary secondary scratch first second was = record {
    primary_first = λ e. sector_fixed primary first (was.primary_first e);
    secondary_second = λ e. sector_fixed secondary second (was.secondary_second e);
    secondary_first = λ e. sector_fixed secondary first (was.secondary_first e);
    scratch_second = λ e. sector_fixed scratch second (was.scratch_second e);
  }

  partway_fixed : (sectors : Sectors) (first second : ℕ → ℕ → ℕ) (done step : ℕ)
      → IsPartway (with_fixed chip fixed) sectors first second done step
      → IsPartway chip sectors first second done step
  partway_fixed sectors first second done step was = record {
    primary_done = λ q low high. sector_fixed (sectors.primary + q) (second q) (was.primary_done q low high);
    secondary_done = λ q low high. sector_fixed (sectors.secondary + q) (first q) (was.secondary_done q low high);
    primary_left = λ q low. sector_fixed (sectors.primary + q) (first q) (was.primary_left q low);
    secondary_left = λ q low. sector_fixed (sectors.secondary + q) (second q) (was.secondary_left q low);
    here = λ q e. between_fixed step (sectors.primary + q) (sectors.secondary + q) sectors.scratch (first q) (second q)
        (was.here q e);
  }

  place_fixed : (map : SectorMap) (side : Side) (i : ℕ) (x y : List ℕ) (count : ℕ)
      → IsImagePlace map (with_fixed chip fixed) side i x y count → IsImagePlace map chip side i x y count
  unfolding part_of fields_at used_of
  place_fixed map side i x y count was = record {
    first = was.first;
    second = was.second;
    bound = was.bound;
    counted = record { is = was.counted.is; free = was.counted.free };
    contents = partway_fixed _ _ _ _ _ was.contents;
  }

  swap_fixed : (map : SectorMap) (side : Side) (mask : ℕ) (x y : ℕ → List ℕ)
      → IsSwapAt map (with_fixed chip fixed) side mask x y → IsSwapAt map chip side mask x y
  unfolding part_of fields_at used_of
  swap_fixed map side mask x y was = record {
    counts = was.counts;
    place = record {
      each = λ i member. place_fixed map side i (x i) (y i) (was.counts i) (was.place.each i member);
      order = was.place.order;
    };
  }

  view_fixed : (map : SectorMap) → view map (with_fixed chip fixed) ≡ view map chip
  unfolding part_of fields_at state_of
  view_fixed map = refl

  swapping_fixed : (map : SectorMap) (s : DeviceState) (table : Table) (mask : ℕ) (permanent : Bool)
      (x y : ℕ → List ℕ) → IsSwapping map (with_fixed chip fixed) s table mask permanent x y
      → IsSwapping map chip s table mask permanent x y
  unfolding part_of fields_at state_of
  swapping_fixed map s table mask permanent x y was = record {
    trial = was.trial;
    images = was.images;
    log = was.log;
    decision = was.decision;
    place = swap_fixed map Primary mask x y was.place;
    ran = was.ran;
    asked = was.asked;
    others = was.others;
  }

  back_fixed : (map : SectorMap) (s : DeviceState) (trial : Trial) (x y : ℕ → List ℕ)
      → IsSwappingBack map (with_fixed chip fixed) s trial x y → IsSwappingBack map chip s trial x y
  unfolding part_of fields_at state_of
  back_fixed map s trial x y was = record {
    goes = was.goes;
    images = was.images;
    permanent = was.permanent;
    log = was.log;
    within = was.within;
    place = swap_fixed map Secondary trial.set x y was.place;
    old = was.old;
    others = was.others;
  }

  stands_fixed : (map : SectorMap) (s : DeviceState) → Stands map (with_fixed chip fixed) s → Stands map chip s
  unfolding part_of fields_at state_of
  stands_fixed map s (Rests was) = Rests was
  stands_fixed map s (Tries trial was) = Tries trial was
  stands_fixed map s (Swaps table mask permanent x y was) =
      Swaps table mask permanent x y (swapping_fixed map s table mask permanent x y was)
  stands_fixed map s (Settles table mask permanent was) = Settles table mask permanent was
  stands_fixed map s (Opens trial goes was) = Opens trial goes was
  stands_fixed map s (SwapsBack trial x y was) = SwapsBack trial x y (back_fixed map s trial x y was)
  stands_fixed map s (SettlesBack trial was) = SettlesBack trial was

-- ---- states on a flash

module _ (map : SectorMap) (old new : Chip) (laid : IsLaidOut map old) (same : SameFlash old new) where
  keeps : (touched : Part → Bool) → Keeps map touched old (with_fixed new old.fixed)
  keeps touched = keeps_bytes map touched old (with_fixed new old.fixed) same.sector_size same.sectors refl same.bytes

  log_same : (view map (with_fixed new old.fixed)).log ≡ (view map old).log
  log_same = (view_kept map (λ part. false) old (with_fixed new old.fixed) (keeps (λ part. false))).log refl

  pub same_stands : (s : DeviceState) → Stands map old s → Stands map new s
  same_stands s was = stands_fixed new old.fixed map s
      (stands_logged map old (with_fixed new old.fixed) s laid (keeps (only Log)) log_same was)

  pub same_rest : (s : DeviceState) → IsAtRest (view map old) s → IsAtRest (view map new) s
  same_rest s (inl was) = subst (λ w. IsAtRest w s) (view_fixed new old.fixed map)
      (inl (steady_logged map old (with_fixed new old.fixed) s (keeps (only Log)) log_same was))
  same_rest s (inr (trial, was)) = subst (λ w. IsAtRest w s) (view_fixed new old.fixed map)
      (inr (trial, again_same map old (with_fixed new old.fixed) s trial (keeps (only Log)) log_same was))

-- ---- uploads

-- Two uploads are the same, except for how the bytes that are held back are stored.
pub record SameUpload (old new : Upload) : Type 0 where
  pub size : new.size ≡ old.size
  pub digest : new.digest ≡ old.digest
  pub kind : new.kind ≡ old.kind
  pub received : new.received ≡ old.received
  pub held : new.held.items ≡ old.held.items

abbrev pub SameIfOpen : Option Upload → Option Upload → Type 0
SameIfOpen None None = Unit {0}
SameIfOpen (Some old) (Some new) = SameUpload old new
SameIfOpen old new = ⊥

pub upload_same : (u : Upload) → SameUpload u u
upload_same u = record { size = refl; digest = refl; kind = refl; received = refl; held = refl }

module _ (map : SectorMap) (old new : Chip) (bytes : new.bytes ≡ old.bytes) where
  part_same : (part : Part) → part_of map new part ≡ part_of map old part
  unfolding part_of
  part_same part =
      ap (λ b. slice_range b (start_of map part) ((first_of map part + count_of map part) * map.sector_size)) bytes

  fields_same : (i : ℕ) (side : Side) → fields_at map new i side ≡ fields_at map old i side
  unfolding fields_at
  fields_same i side = ap (λ b. fields_in (slot_sectors map i) map.sector_size b) (part_same (TrailerOf i side))

  pub upload_moved : (i : ℕ) (a b : Upload) → SameUpload a b → (written : List ℕ)
      → IsUploadAt (view map old) i a written → IsUploadAt (view map new) i b written
  upload_moved i a b is written was =
      let slot = part_same (Slot i Secondary) in
      record {
        there = was.there;
        units = was.units;
        slot = subst (λ s. IsWritten s written) (sym slot) was.slot;
        trailer = fields_same i Secondary ∙ was.trailer;
        few = omega (arith, ap (λ (l : List ℕ). length l) is.held, was.few);
        count = omega (arith, is.received, was.count, ap (λ (l : List ℕ). length l) is.held);
        fits = omega (arith, is.received, is.size, was.fits);
        room = omega (arith, ap (λ (l : List ℕ). length l) slot, is.size, was.room);
      }

  session_is : (a b : Upload) → SameUpload a b → (written : List ℕ) → session_of a written ≡ session_of b written
  session_is a b is written = rw (is.size, is.digest, is.kind, is.held) refl

  session_moved : (i : ℕ) (a b : Option Upload) (s : Option Session) → SameIfOpen a b
      → HasSession (view map old) i a s → HasSession (view map new) i b s
  session_moved i None None None is was = tt
  session_moved i None None (Some s) is was = absurd was
  session_moved i None (Some b) s is was = absurd is
  session_moved i (Some a) None s is was = absurd is
  session_moved i (Some a) (Some b) None is was = absurd was
  session_moved i (Some a) (Some b) (Some s) is (written, at, same) =
      (written, upload_moved i a b is written at, same ∙ session_is a b is written)

-- ---- devices

-- the state of a device is that of another one with the same bytes, and with the same uploads if it is booted
pub same_holds : (map : SectorMap) (d e : DeviceView) → IsLaidOut map d.flash → SameFlash d.flash e.flash
    → e.up ≡ d.up → (d.up ≡ true → (i : ℕ) → SameIfOpen (upload_at d.sessions i) (upload_at e.sessions i))
    → (d.up ≡ false → AllClosed e.sessions) → (m : Machine) → Holds map d m → Holds map e m
same_holds map d e laid same up open_same closed m holds = by d.up refl
  where
    by : (is : Bool) → d.up ≡ is → Holds map e m
    by true on_is = record {
      stands = same_stands map d.flash e.flash laid same m.kept holds.stands;
      is_booted = holds.is_booted ∙ sym up;
      rest = λ u. same_rest map d.flash e.flash laid same m.kept (holds.rest u);
      open_ones = record {
        each = λ i. session_moved map d.flash e.flash same.bytes i _ _ (m.session i) (open_same on_is i)
            (holds.open_ones.each i);
      };
      closed = λ down. absurd (true≢false (sym (holds.is_booted ∙ on_is) ∙ down));
    }
    by false off_is = record {
      stands = same_stands map d.flash e.flash laid same m.kept holds.stands;
      is_booted = holds.is_booted ∙ sym up;
      rest = λ u. same_rest map d.flash e.flash laid same m.kept (holds.rest u);
      open_ones = record {
        each = λ i. session_moved map d.flash e.flash same.bytes i None _ (m.session i)
            (subst (λ (u : Option Upload). SameIfOpen None u) (sym (closed off_is i)) tt)
            (subst (λ (u : Option Upload). HasSession (view map d.flash) i u (m.session i))
            (holds.closed (holds.is_booted ∙ off_is) i) (holds.open_ones.each i));
      };
      closed = λ down. closed off_is;
    }
