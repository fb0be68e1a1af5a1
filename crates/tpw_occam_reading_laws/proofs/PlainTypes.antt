-- Types, names and parameters without places.
use Rattle.std.specs.Prelude.{Option, Some, None}
use Rattle.tpw_occam_terms.specs.declared.name.Name.{Name}
use Rattle.tpw_occam_meaning.specs.declared.types.Names.{Names}
use Rattle.tpw_occam_meaning.specs.declared.types.Names.TheVariants as names
use Rattle.tpw_occam_meaning.specs.declared.types.Sizes.{Sizes}
use Rattle.tpw_occam_meaning.specs.declared.types.Sizes.TheVariants as sizes
use Rattle.tpw_occam_meaning.specs.declared.types.Type as written
use Rattle.tpw_occam_meaning.specs.declared.types.Parameters.{Parameters}
use Rattle.tpw_occam_meaning.specs.declared.types.Parameters.TheVariants as parameters
use Rattle.tpw_occam_reading_laws.proofs.Plain.{boxed, name_of, plain, IsWhole}

abbrev pub plain_name_of : Name → Name
plain_name_of name = name_of name.text.now

abbrev pub plain_sizes : Sizes → Sizes
plain_sizes sizes.End = sizes.End
plain_sizes (sizes.Open' p others) = sizes.Open' boxed (plain_sizes others)
plain_sizes (sizes.Of' size p others) = sizes.Of' (plain size) boxed (plain_sizes others)

abbrev pub plain_type : written.Type → written.Type
plain_type of = record { sizes = plain_sizes of.sizes; of = of.of }

abbrev pub plain_type_if : Option written.Type → Option written.Type
plain_type_if None = None
plain_type_if (Some of) = Some (plain_type of)

abbrev pub plain_names : Names → Names
plain_names names.End = names.End
plain_names (names.More' name p others) = names.More' (plain_name_of name) boxed (plain_names others)

abbrev pub plain_parameters : Parameters → Parameters
plain_parameters parameters.End = parameters.End
plain_parameters (parameters.Typed' passing of name direction p others) =
    parameters.Typed' passing (plain_type of) (plain_name_of name) direction boxed (plain_parameters others)
plain_parameters (parameters.Further' name direction p others) =
    parameters.Further' (plain_name_of name) direction boxed (plain_parameters others)

-- ---- no fault in them

abbrev pub AreSizes : Sizes → Type 0
AreSizes sizes.End = Unit {0}
AreSizes (sizes.Open' p others) = AreSizes others
AreSizes (sizes.Of' size p others) = IsWhole size × AreSizes others

abbrev pub IsType : written.Type → Type 0
IsType of = AreSizes of.sizes

abbrev pub IsTypeIf : Option written.Type → Type 0
IsTypeIf None = Unit {0}
IsTypeIf (Some of) = IsType of

abbrev pub AreParameters : Parameters → Type 0
AreParameters parameters.End = Unit {0}
AreParameters (parameters.Typed' passing of name direction p others) = IsType of × AreParameters others
AreParameters (parameters.Further' name direction p others) = AreParameters others
