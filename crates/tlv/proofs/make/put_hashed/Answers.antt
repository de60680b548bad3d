use Rattle.std.proofs.Common.{◌≡◌, ◌++◌, ◌-◌, ℕ, List, ap, replicate, ◌∙◌}
use Rattle.image_header.specs.Header.{header_bytes}
use Rattle.image_reading.specs.Image.{hashed_bytes, protected_bytes}
use Rattle.tlv.specs.Making.{header_of, image_of}
use Rattle.tlv.specs.Writing.{puts_both}
use Rattle.tlv.proofs.MakingSteps.{hashed_spelled, puts_same}
use Rattle.tlv.proofs.make.put_hashed.Goals as goal

pub returns : goal.returns
returns c =
    let spec = c.args.spec.now in
    let area = protected_bytes (image_of spec) in
    let header : c.write.result ≡ header_bytes (header_of spec) =
    c.write.ensures ∙ ap header_bytes c.header.ensures.header in
    let spelled : ((c.write.result ++ replicate (c.from.result - 32) 0) ++ spec.body.now) ++ area
    ≡ hashed_bytes (image_of spec)
    = ap (λ (bytes : List ℕ). ((bytes ++ replicate (c.from.result - 32) 0) ++ spec.body.now) ++ area) header
    ∙ ap (λ (n : ℕ). ((header_bytes (header_of spec) ++ replicate (n - 32) 0) ++ spec.body.now) ++ area) c.from.ensures
    ∙ hashed_spelled spec in
    record {
      hashed = puts_same (((c.write.result ++ replicate (c.from.result - 32) 0) ++ spec.body.now) ++ area)
          (hashed_bytes (image_of spec))
          (puts_both _ _ _ _ _ _ _ _
          (puts_both _ _ _ _ _ _ _ _
          (puts_both _ _ _ _ _ _ _ _ c.put-place.ensures c.put_zeros-place.ensures)
          c.put-place-2.ensures)
          c.put_protected.ensures.area)
          spelled;
      fits = record {
        header = c.header.ensures.fits;
        dependencies = c.put_protected.ensures.dependencies;
        groups = c.put_protected.ensures.groups;
        counter = c.put_protected.ensures.counter;
      };
    }
