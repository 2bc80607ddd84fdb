-- The resources of Photoshop in Exif data (Photoshop File Formats, "Image Resource Blocks").
use Rattle.std.specs.Prelude.{ℕ, zero, suc, ◌+◌, ◌-◌, List, [], ◌∷◌, length, take, drop, if◌then◌else◌}
use Rattle.exif_inventory.specs.Resources.{resource_at}
use Rattle.exif_inventory.specs.declared.kind.Kind.{Kind}
use Rattle.exif_inventory.specs.declared.kind.Kind.TheVariants as kind
use Rattle.exif_inventory.specs.declared.resource.Resource.{Resource}
use Rattle.exif_data_locations.specs.Regions.{all_zero}
use Rattle.exif_data_locations.specs.declared.region.Region.{Region}
use Rattle.exif_data_locations.specs.declared.region.What.{What}
use Rattle.exif_data_locations.specs.declared.region.What.TheVariants.{Xmp, Iptc, Other, Residual}
use Rattle.exif_data_locations.specs.declared.reason.Reason.TheVariants.{ExifResource, OtherResource, ResourcesNotRead}

-- what data that are not looked at hold: nothing, if they are zeros
abbrev pub unjudged : List ℕ → What
unjudged bytes = if all_zero bytes then Other else Residual OtherResource

-- what a resource of this kind with these data holds: one whose fields are numbers alone names no
-- location, and any other one may
abbrev pub what_of : Kind → List ℕ → What
what_of kind.Iptc bytes = Iptc
what_of kind.PhotoshopXmp bytes = Xmp
what_of kind.PhotoshopExif bytes = Residual ExifResource
what_of kind.Photoshop bytes = Other
what_of kind.Broken bytes = Residual ResourcesNotRead
what_of _ bytes = unjudged bytes

-- the data of a resource at the front of bytes
abbrev pub content_of : Resource → List ℕ → List ℕ
content_of resource bytes = take resource.size (drop resource.front bytes)

-- the region of the data of a resource that is at the front of bytes and at an offset
abbrev pub resource_region : ℕ → ℕ → Resource → List ℕ → Region
resource_region tag at resource bytes = record {
  tag = tag;
  offset = at + resource.front;
  len = resource.size;
  what = what_of resource.kind (content_of resource bytes);
}

-- the regions of at most n resources, of which the first is at an offset; each has a byte
unfoldable pub resources_by : ℕ → ℕ → ℕ → List ℕ → List Region
resources_by n tag at [] = []
resources_by zero tag at (b ∷ bytes) = []
resources_by (suc n) tag at (b ∷ bytes) =
    let resource = resource_at (b ∷ bytes) in
    resource_region tag at resource (b ∷ bytes)
    ∷ resources_by n tag (at + resource.len) (drop (resource.len - 1) bytes)

-- the regions of resources that are at an offset
abbrev pub resource_regions : ℕ → ℕ → List ℕ → List Region
resource_regions tag at bytes = resources_by (length bytes) tag at bytes
