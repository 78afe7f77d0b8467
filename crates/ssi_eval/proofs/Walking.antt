-- Each turn of a walk keeps what its levels give.
use Rattle.std.proofs.Common.{◌≡◌, ◌≢◌, ℕ, zero, suc, ◌+◌, ◌<◌, ◌≤◌, Bool, true, false, List, [], ◌∷◌, ◌++◌, length, refl, sym, ap, subst, ◌∙◌, length-append, arith}
use Rattle.std.specs.Prelude.{reverse}
use Rattle.std.proofs.lemmas.List.{length-reverse, reverse-append}
use Rattle.ssi_identities.specs.States.{State}
use Rattle.ssi_eval.specs.declared.frame.Frame.{Frame}
use Rattle.ssi_eval.specs.Frames.{Gives, Reading, GoesOn, Fits}
use Rattle.ssi_eval.specs.Items.{CanRead}
use Rattle.ssi_eval.specs.Pieces.{BeginsPiece}
use Rattle.ssi_eval.proofs.Levels.{is_settled, settled, more_items, more_others, next_alternative}
use Rattle.ssi_eval.proofs.ReadItems.{IsPiece}

pub on_top : (old new : List Frame) (frame : Frame) → new ≡ old ++ frame ∷ [] → reverse new ≡ frame ∷ reverse old
on_top old new frame is = ap reverse is ∙ reverse-append old (frame ∷ [])

-- where the last item has this value
pub with_value : (k : Reading) (stack : List Frame) (level : Frame) (value known : Bool) → value ≡ known → (on : GoesOn k stack level value) → Gives k.scene k.scope (level ∷ on.frames) known k.result
with_value k stack level value known is on = subst (λ (v : Bool). Gives k.scene k.scope (level ∷ on.frames) v k.result) is on.gives

module _ (k : Reading) (base : ℕ) (state : State) (report : ℕ) (fits : Fits k base state report) where
  -- the reading is over
  pub finished : (stack : List Frame) (level : Frame) (value : Bool) → length stack ≡ base → is_settled value level ≡ true → GoesOn k stack level value → (value ≡ k.result) × (reverse stack ≡ k.under)
  finished stack level value at_base done on = by_frames on.frames on.on (settled k.scene k.scope level on.frames value k.result done on.gives)
    where
      by_frames : (frames : List Frame) → reverse stack ≡ frames ++ k.under → Gives k.scene k.scope frames value k.result → (value ≡ k.result) × (reverse stack ≡ k.under)
      by_frames [] is gives = (gives, is)
      by_frames (frame ∷ frames) is gives = absurd (omega (arith, fits.under, length-reverse stack, ap length is, length-append frames k.under))

  -- the level round it goes on
  pub left : (old new : List Frame) (level outer : Frame) (value : Bool) → length old ≢ base → old ≡ new ++ outer ∷ [] → is_settled value level ≡ true → GoesOn k old level value → GoesOn k new outer value
  left old new level outer value above is done on = by_frames on.frames on.on (settled k.scene k.scope level on.frames value k.result done on.gives)
    where
      by_frames : (frames : List Frame) → reverse old ≡ frames ++ k.under → Gives k.scene k.scope frames value k.result → GoesOn k new outer value
      by_frames [] there gives = absurd (above (sym (length-reverse old) ∙ ap length there ∙ fits.under))
      by_frames (frame ∷ frames) there gives =
          let both : outer ∷ reverse new ≡ frame ∷ (frames ++ k.under) = sym (on_top new old outer is) ∙ there in
          let same : frame ≡ outer = cc in
          record { frames = frames; on = cc; gives = subst (λ (f : Frame). Gives k.scene k.scope (f ∷ frames) value k.result) same gives }

  -- there is a level round it
  pub some_left : (stack : List Frame) (level : Frame) (value : Bool) → length stack ≢ base → is_settled value level ≡ true → GoesOn k stack level value → 0 < length stack
  some_left stack level value above done on = by_length (length stack) refl
    where
      by_length : (n : ℕ) → length stack ≡ n → 0 < length stack
      by_length zero none = absurd (above (omega (arith, none, fits.under, length-reverse stack, ap length on.on, length-append on.frames k.under)))
      by_length (suc n) some = omega (arith, some)

  -- an alternative stands there
  pub begins_alternative : (stack : List Frame) (level : Frame) (value : Bool) → is_settled value level ≡ false → value ≡ false → GoesOn k stack level value → BeginsPiece level.others.now
  begins_alternative stack level value more is on =
      let next = next_alternative k.scene k.scope level on.frames k.result (more_others value level more is) (with_value k stack level value false is on) in
      record { piece = next.piece; rest = next.rest; short = next.short; is = next.is }

  -- it goes on at the next alternative
  pub alternative : (stack : List Frame) (level next : Frame) (value : Bool) → is_settled value level ≡ false → value ≡ false → IsPiece level.others.now next.items.now next.others.now → GoesOn k stack level value → GoesOn k stack next true
  alternative stack level next value more is read on =
      let found = next_alternative k.scene k.scope level on.frames k.result (more_others value level more is) (with_value k stack level value false is on) in
      let parts = read found.piece found.rest found.short found.is in
      record { frames = on.frames; on = on.on; gives = found.gives next parts.0 parts.1 }

  -- an item may be read
  pub can_read : (stack : List Frame) (level : Frame) (value : Bool) → is_settled value level ≡ false → value ≡ true → GoesOn k stack level value → CanRead state report level
  can_read stack level value more is on = record {
    scene = k.scene;
    scope = k.scope;
    frames = on.frames;
    result = k.result;
    some = more_items value level more is;
    looks = fits.looks;
    gives = with_value k stack level value true is on;
  }

  -- it goes on behind a test
  pub after_item : (stack : List Frame) (level next : Frame) (value read : Bool) → value ≡ true → (on : GoesOn k stack level value) → (Gives k.scene k.scope (level ∷ on.frames) true k.result → Gives k.scene k.scope (next ∷ on.frames) read k.result) → GoesOn k stack next read
  after_item stack level next value read is on found = record { frames = on.frames; on = on.on; gives = found (with_value k stack level value true is on) }

  -- a question may be asked, and it goes on with the answer
  pub asked : (stack : List Frame) (level next : Frame) (value lie : Bool) (points : ℕ) → value ≡ true → (on : GoesOn k stack level value)
      → (Gives k.scene k.scope (level ∷ on.frames) true k.result → (k.scope.may_ask points lie ≡ true) × Gives k.scene k.scope (next ∷ on.frames) (k.scene.free points lie) k.result)
      → (k.scope.may_ask points lie ≡ true) × GoesOn k stack next (k.scene.free points lie)
  asked stack level next value lie points is on found =
      let read = found (with_value k stack level value true is on) in
      (read.0, record { frames = on.frames; on = on.on; gives = read.1 })

  -- it goes on within a group
  pub entered : (old new : List Frame) (level next group : Frame) (value : Bool) (alternatives : List ℕ) → new ≡ old ++ next ∷ [] → value ≡ true → (on : GoesOn k old level value)
      → (Gives k.scene k.scope (level ∷ on.frames) true k.result
      → (length on.frames < 8) × ((inner : Frame) → inner.items.now ≡ [] → inner.others.now ≡ alternatives → Gives k.scene k.scope (inner ∷ next ∷ on.frames) false k.result))
      → group.items.now ≡ [] → group.others.now ≡ alternatives → GoesOn k new group false
  entered old new level next group value alternatives pushed is on found none others =
      let read = found (with_value k old level value true is on) in
      record { frames = next ∷ on.frames; on = on_top old new next pushed ∙ ap (λ (fs : List Frame). next ∷ fs) on.on; gives = read.1 group none others }

  -- no reading has more than eight levels round the one that is read
  pub room : (stack : List Frame) (level : Frame) (value : Bool) → GoesOn k stack level value → length stack ≤ base + 8
  room stack level value on =
      let depth = on.gives.2.items_depth in
      omega (arith, fits.under, length-reverse stack, ap length on.on, length-append on.frames k.under)

  -- fewer where a group begins
  pub group_room : (stack : List Frame) (level : Frame) (value : Bool) → (on : GoesOn k stack level value) → length on.frames < 8 → length stack < base + 8
  group_room stack level value on few = omega (arith, few, fits.under, length-reverse stack, ap length on.on, length-append on.frames k.under)
