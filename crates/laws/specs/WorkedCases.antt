-- What is asked in the worked cases, and that nothing is vacuous: a whole history, and a walk through two entities.
use Rattle.std.specs.Prelude.{◌≡◌, ℕ, true, false, List, [], ◌∷◌, length, take, ℤ, pos, negsuc, Some, None, Ok}
use Rattle.model.specs.declared.fault.Refusal.TheVariants.{Malformed}
use Rattle.model.specs.declared.fault.Layer.TheVariants.{Image as image_layer}
use Rattle.model.specs.Faults.{placed}
use Rattle.model.specs.Values as value
use Rattle.model.specs.Values.{Value, Values}
use Rattle.model.specs.Types as type
use Rattle.model.specs.Types.{Ty}
use Rattle.model.specs.Terms.{encode, size, atom, prim, none_of, truth, pattern, text, entity_uid, some, record_of, many, elements, term, no_terms, flat, set, bitvec, bool, entity}
use Rattle.model.specs.Symbolize.{pattern_of, symbolize, need, default_literal}
use Rattle.model.specs.Schemas.{least_member}
use Rattle.model.specs.Entities.{Entity, entity_run, request_run}
use Rattle.model.specs.Images.{image_of, image_fault}
use Rattle.model.specs.Environments.{from_concrete_env}
use Rattle.model.specs.Builds.{full, terms_of}
use Rattle.model.specs.Stores.{no_such_place}
use Rattle.model.specs.Walks.{resource, attribute, walk_on}
use Rattle.model.specs.Live.{Setting, afresh, parts, in_use, answer, Call, put, remove, walk, accepted, refused, gives, absent}
use Rattle.model.specs.Histories.{Making, History, lived}
use Rattle.laws.specs.declared.cases.Cases.{Cases}
use Rattle.laws.specs.declared.cases.Day.{Day}
use Rattle.laws.specs.Samples as sample
use Rattle.laws.specs.Samples.{long_type, long_value, longs, set_of, behind_first, colors, one_field, one_value, bare, setting}

abbrev pub set_type : Ty
set_type = type.set long_type

-- the expected values are those that the definitions give
pub record Table (c : Cases) : Type 0 where
  pub least_long : c.least_long ≡ pattern_of (negsuc 9223372036854775807)
  pub written_set : c.written_set ≡ behind_first (encode (symbolize set_type (set_of (negsuc 0 ∷ (pos 1 ∷ [])))))
  pub need_of_equals : c.need ≡ need set_type (set_of (pos 3 ∷ (pos 3 ∷ [])))
  pub records_of_equals : c.records ≡ size (symbolize set_type (set_of (pos 3 ∷ (pos 3 ∷ []))))
  pub default_member : default_literal (least_member colors) (flat (entity sample.color)) ≡ atom (prim (entity_uid (sample.color, c.default_member)))
  -- a required attribute that is missing becomes None, and the check refuses it
  pub missing_none : symbolize (one_field sample.cut true long_type) (value.rec value.none) ≡ record_of (term sample.cut (atom (none_of (flat bitvec))) no_terms)
  pub missing : answer (setting (one_field sample.cut true long_type) 100) [] (put (entity_run (bare sample.panel sample.seventeen value.none))) ≡ refused c.missing
  -- true under Long is true, and the check refuses it
  pub true_under_long : symbolize long_type (value.prim (value.bool true)) ≡ atom (prim (truth c.truth))
  pub misplaced : answer (setting (one_field sample.cut true long_type) 100) [] (put (entity_run (bare sample.panel sample.seventeen (one_value sample.cut (value.prim (value.bool true)))))) ≡ refused c.misplaced
  -- an optional attribute with 5 is Some 5
  pub is_some_five : symbolize (one_field sample.cut false long_type) (value.rec (one_value sample.cut (long_value (pos 5)))) ≡ record_of (term sample.cut (some (atom (prim (pattern 5)))) no_terms)
  pub some_five : c.some_five ≡ size (symbolize (one_field sample.cut false long_type) (value.rec (one_value sample.cut (long_value (pos 5)))))
  pub stored_cut : answer (setting sample.panel_type 100) sample.cut_panel (walk resource (attribute sample.cut ∷ []) 4096 4096) ≡ gives (flat bool) (atom (prim (truth c.stored_cut)))
  pub absent_lot : answer (setting sample.panel_type 100) sample.cut_panel (walk resource (attribute sample.of_lot ∷ []) 4096 4096) ≡ absent c.absent_lot
  pub default_cut : answer (setting sample.panel_type 100) [] (walk resource (attribute sample.cut ∷ []) 4096 4096) ≡ gives (flat bool) (atom (prim (truth c.default_cut)))
  -- one bare entity makes an image, and without its last byte it is none
  pub image_bytes : c.image_bytes ≡ length (image_of (bare sample.panel sample.seventeen value.none ∷ []))
  pub whole_image : image_fault (image_of (bare sample.panel sample.seventeen value.none ∷ [])) ≡ None
  pub broken_at : image_fault (take 67 (image_of (bare sample.panel sample.seventeen value.none ∷ []))) ≡ Some (placed Malformed image_layer c.broken_at)

-- a make in a pool of 17 records
abbrev pub day : Making
day = record {
  schema = sample.loft sample.seamed;
  request_type = sample.cutting;
  request_run = request_run (sample.request (sample.panel, sample.seventeen));
  sizes = record { records = 17; functions = 100; tags = 100 };
  buffer = 4096;
}

abbrev pub first_panel : List ℤ → Entity
first_panel zs = sample.panel_with sample.seventeen zs

abbrev pub second_panel : Entity
second_panel = sample.panel_with sample.white []

abbrev pub at_first : List Entity
at_first = first_panel (pos 3 ∷ (pos 3 ∷ [])) ∷ []

abbrev pub at_last : List Entity
at_last = first_panel (pos 3 ∷ []) ∷ []

-- the second panel is put, the first again as it was, the first with one element less, the second is removed and removed
-- again, and a walk asks for the elements
abbrev pub calls : List Call
calls =
    put (entity_run second_panel)
    ∷ (put (entity_run (first_panel (pos 3 ∷ (pos 3 ∷ []))))
    ∷ (put (entity_run (first_panel (pos 3 ∷ [])))
    ∷ (remove (sample.panel, sample.white)
    ∷ (remove (sample.panel, sample.white)
    ∷ (walk resource (attribute sample.seams ∷ []) 4096 4096 ∷ [])))))

abbrev pub in_pool : Setting
in_pool = setting sample.seamed 17

abbrev pub both : List ℤ → List Entity
both zs = first_panel zs ∷ (second_panel ∷ [])

-- the records in use along the day, and the answers of its calls
pub record ADay (d : Day) : Type 0 where
  pub made : d.made ≡ in_use in_pool at_first
  pub then_full : d.full ≡ in_use in_pool (both (pos 3 ∷ (pos 3 ∷ [])))
  pub put_again : answer in_pool (both (pos 3 ∷ (pos 3 ∷ []))) (put (entity_run (first_panel (pos 3 ∷ (pos 3 ∷ []))))) ≡ refused d.put_again
  pub put_less : answer in_pool (both (pos 3 ∷ (pos 3 ∷ []))) (put (entity_run (first_panel (pos 3 ∷ [])))) ≡ accepted
  pub replaced : d.replaced ≡ in_use in_pool (both (pos 3 ∷ []))
  pub removed : d.removed ≡ in_use in_pool at_last
  pub removed_again : answer in_pool at_last (remove (sample.panel, sample.white)) ≡ refused d.removed_again
  pub seam : answer in_pool at_last (walk resource (attribute sample.seams ∷ []) 4096 4096)
      ≡ gives (set (flat bitvec)) (many (elements (flat bitvec)) (term 0 (atom (prim (pattern d.seam))) no_terms))

-- the same day as one history, with its answers, its last list and the environment built afresh from it
abbrev pub AWholeDay : Type 0
AWholeDay = History day at_first calls (lived
    (accepted ∷ (refused full ∷ (accepted ∷ (accepted ∷ (refused no_such_place
    ∷ (gives (set (flat bitvec)) (many (elements (flat bitvec)) (term 0 (atom (prim (pattern 3))) no_terms)) ∷ []))))))
    at_last (afresh in_pool at_last) (terms_of (parts in_pool at_last)))

-- a walk passes from a panel to its lot, and on to the lot's dye
abbrev pub TwoEntities : ℕ → Type 0
TwoEntities n =
    walk_on (from_concrete_env (sample.loft sample.panel_type) sample.cutting (sample.request (sample.panel, sample.seventeen)) sample.panel_of_lot) resource (attribute sample.of_lot ∷ (attribute sample.dye ∷ []))
    ≡ Ok (atom (prim (text n)))
