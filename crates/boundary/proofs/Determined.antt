-- No second outcome of an exported call meets its contract, every lent buffer included.
-- Assumes nothing.
use mathlib.Core.Path.{◌≡◌, ◌∙◌, sym}
use mathlib.Core.List.{List}
use Prim.Native.Nat.{ℕ}
use Rattle.station.specs.declared.Station.{Station}
use Rattle.frame.specs.Given.{Arrival, Lent}
use Rattle.boundary.specs.Calls.{StateLeft, in_range_on, lost_on, add_on, remove_on, key_on, power_on_in}
use Rattle.boundary.specs.Frames.{BuffersLeft, PlaceLeft, frame_on, place_on}
use Rattle.boundary.specs.Lists.{Listing, ListLeft, list_on}
use Rattle.boundary.specs.Writers.{Target, hlend_in, allocation_in, xgem_frame_in}

pub power_on_once : (b serial registration : List ℕ) (x y : StateLeft) → x ≡ power_on_in b serial registration → y ≡ power_on_in b serial registration → x ≡ y
power_on_once b serial registration x y p q = p ∙ sym q

pub in_range_once : (b : List ℕ) (x y : ℕ) → x ≡ in_range_on b → y ≡ in_range_on b → x ≡ y
in_range_once b x y p q = p ∙ sym q

pub lost_once : (b : List ℕ) (x y : StateLeft) → x ≡ lost_on b → y ≡ lost_on b → x ≡ y
lost_once b x y p q = p ∙ sym q

pub add_once : (b : List ℕ) (port : ℕ) (x y : StateLeft) → x ≡ add_on b port → y ≡ add_on b port → x ≡ y
add_once b port x y p q = p ∙ sym q

pub remove_once : (b : List ℕ) (port : ℕ) (x y : StateLeft) → x ≡ remove_on b port → y ≡ remove_on b port → x ≡ y
remove_once b port x y p q = p ∙ sym q

pub key_once : (b key : List ℕ) (x y : StateLeft) → x ≡ key_on b key → y ≡ key_on b key → x ≡ y
key_once b key x y p q = p ∙ sym q

pub frame_once
    : (b : List ℕ) (a : Arrival) (counts : List ℕ) (lent : Lent) (x y : BuffersLeft) → x ≡ frame_on b a counts lent → y ≡ frame_on b a counts lent
    → x ≡ y
frame_once b a counts lent x y p q = p ∙ sym q

pub place_once : (b f : List ℕ) (k : ℕ) (place : List ℕ) (x y : PlaceLeft) → x ≡ place_on b f k place → y ≡ place_on b f k place → x ≡ y
place_once b f k place x y p q = p ∙ sym q

-- of `lingbarrow_stretches` and of `lingbarrow_why_dark`
pub list_once
    : (b f : List ℕ) (call : Station → Listing) (list counts : List ℕ) (x y : ListLeft) → x ≡ list_on b f call list counts → y ≡ list_on b f call list counts
    → x ≡ y
list_once b f call list counts x y p q = p ∙ sym q

pub hlend_once : (bwmap ploam : ℕ) (t : List ℕ) (x y : Target) → x ≡ hlend_in bwmap ploam t → y ≡ hlend_in bwmap ploam t → x ≡ y
hlend_once bwmap ploam t x y p q = p ∙ sym q

pub allocation_once
    : (alloc dbru ploamu start grant fwi profile : ℕ) (t : List ℕ) (x y : Target) → x ≡ allocation_in alloc dbru ploamu start grant fwi profile t
    → y ≡ allocation_in alloc dbru ploamu start grant fwi profile t → x ≡ y
allocation_once alloc dbru ploamu start grant fwi profile t x y p q = p ∙ sym q

pub xgem_frame_once
    : (key port options last : ℕ) (sdu t : List ℕ) (x y : Target) → x ≡ xgem_frame_in key port options last sdu t → y ≡ xgem_frame_in key port options last sdu t
    → x ≡ y
xgem_frame_once key port options last sdu t x y p q = p ∙ sym q
