-- The first setting in which two setups differ.
use Rattle.std.specs.Prelude.{ℕ, ◌==◌, not, List, [], ◌∷◌, ◌++◌, find, Option, option_map, slice_index}
use Rattle.nbody_model.specs.Setups.{SetupData}
use Rattle.param_file.specs.declared.names.ParamName.{ParamName}
use Rattle.param_file.specs.declared.names.ParamName.TheVariants.{TimeMax, LowBin, TopBin, ErrTolTheta, ErrTolIntAccuracy, GravityConstantInternal, VelocityShift, SofteningType1, SofteningType2, SofteningType3, SofteningType4, SofteningType5}

-- a setting: its name in the table of parameters, and its number
pub record Setting : Type 0 where
  pub name : ParamName
  pub number : SetupData → ℕ

-- those that aren't softening lengths, and the softening lengths, in the order of the table
abbrev pub rules : List Setting
rules =
    record { name = TimeMax; number = λ s. s.time_max } ∷
    record { name = LowBin; number = λ s. s.low_bin } ∷
    record { name = TopBin; number = λ s. s.top_bin } ∷
    record { name = ErrTolTheta; number = λ s. s.theta } ∷
    record { name = ErrTolIntAccuracy; number = λ s. s.eta } ∷
    record { name = GravityConstantInternal; number = λ s. s.gravity } ∷
    record { name = VelocityShift; number = λ s. s.velocity_shift } ∷
    []

abbrev pub softenings : List Setting
softenings =
    record { name = SofteningType1; number = λ s. slice_index s.soft 1 } ∷
    record { name = SofteningType2; number = λ s. slice_index s.soft 2 } ∷
    record { name = SofteningType3; number = λ s. slice_index s.soft 3 } ∷
    record { name = SofteningType4; number = λ s. slice_index s.soft 4 } ∷
    record { name = SofteningType5; number = λ s. slice_index s.soft 5 } ∷
    []

-- the first of these settings whose numbers differ
abbrev pub differing : List Setting → SetupData → SetupData → Option ParamName
differing settings kept now = option_map (λ setting. setting.name) (find (λ setting. not (setting.number kept == setting.number now)) settings)

-- the first of all
abbrev pub first_difference : SetupData → SetupData → Option ParamName
first_difference kept now = differing (rules ++ softenings) kept now
