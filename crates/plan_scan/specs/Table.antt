-- The messages of a plan and their fields (Substrait's plan.proto, algebra.proto, type.proto and function.proto).
use Rattle.std.specs.Prelude.{◌≡◌, ℕ, List, [], ◌∷◌, if◌then◌else◌, ◌==◌}
use Rattle.plan_scan.specs.declared.shape.Shape.{Shape}
use Rattle.plan_scan.specs.declared.shape.Shape.TheVariants.{Empty, Plan, PlanRel, RelRoot, ExtensionUri, ExtensionDeclaration, ExtensionFunction, Rel, RelCommon, Emit, ReadRel, NamedStruct, StructType, NamedTable, VirtualTable, LiteralRow, ExpressionRow, LocalFiles, FileItem, FilterRel, FetchRel, AggregateRel, Grouping, Measure, AggregateFunction, SortRel, SortField, JoinRel, ProjectRel, SetRel, CrossRel, MaskExpression, StructSelect, StructItem, Expression, ScalarFunction, FunctionArgument, FunctionOption, FieldReference, ReferenceSegment, StructField, IfThen, IfClause, SwitchExpression, IfValue, SingularOrList, Cast, Literal, DecimalLiteral, DataType, PlainType, DecimalType, Subquery, ScalarSubquery, InPredicate, SetPredicate}
use Rattle.plan_scan.specs.declared.shape.Use.{Use}
use Rattle.plan_scan.specs.declared.shape.Use.TheVariants.{Unnamed, Number, Numbers, Text, Bytes, Message}

-- the named fields of a message
abbrev pub named : Shape → List (ℕ × Use)
named Empty = []
named Plan = (1, Message ExtensionUri) ∷ (2, Message ExtensionDeclaration) ∷ (3, Message PlanRel) ∷ []
named PlanRel = (1, Message Rel) ∷ (2, Message RelRoot) ∷ []
named RelRoot = (1, Message Rel) ∷ (2, Text) ∷ []
named ExtensionUri = (1, Number) ∷ (2, Text) ∷ []
named ExtensionDeclaration = (3, Message ExtensionFunction) ∷ []
named ExtensionFunction = (1, Number) ∷ (2, Number) ∷ (3, Text) ∷ []
named Rel = (1, Message ReadRel) ∷ (2, Message FilterRel) ∷ (3, Message FetchRel) ∷ (4, Message AggregateRel) ∷ (5, Message SortRel) ∷ (6, Message JoinRel) ∷ (7, Message ProjectRel) ∷ (8, Message SetRel) ∷ (12, Message CrossRel) ∷ []
named RelCommon = (1, Message Empty) ∷ (2, Message Emit) ∷ []
named Emit = (1, Numbers) ∷ []
named ReadRel = (1, Message RelCommon) ∷ (2, Message NamedStruct) ∷ (3, Message Expression) ∷ (4, Message MaskExpression) ∷ (5, Message VirtualTable) ∷ (6, Message LocalFiles) ∷ (7, Message NamedTable) ∷ (11, Message Expression) ∷ []
named NamedStruct = (1, Text) ∷ (2, Message StructType) ∷ []
named StructType = (1, Message DataType) ∷ []
named NamedTable = (1, Text) ∷ []
named VirtualTable = (1, Message LiteralRow) ∷ (2, Message ExpressionRow) ∷ []
named LiteralRow = (1, Message Literal) ∷ []
named ExpressionRow = (1, Message Expression) ∷ []
named LocalFiles = (1, Message FileItem) ∷ []
named FileItem = (1, Text) ∷ (3, Text) ∷ (10, Message Empty) ∷ []
named FilterRel = (1, Message RelCommon) ∷ (2, Message Rel) ∷ (3, Message Expression) ∷ []
named FetchRel = (1, Message RelCommon) ∷ (2, Message Rel) ∷ (3, Number) ∷ (4, Number) ∷ (5, Message Expression) ∷ (6, Message Expression) ∷ []
named AggregateRel = (1, Message RelCommon) ∷ (2, Message Rel) ∷ (3, Message Grouping) ∷ (4, Message Measure) ∷ (5, Message Expression) ∷ []
named Grouping = (1, Message Expression) ∷ (2, Numbers) ∷ []
named Measure = (1, Message AggregateFunction) ∷ (2, Message Expression) ∷ []
named AggregateFunction = (1, Number) ∷ (3, Message SortField) ∷ (4, Number) ∷ (5, Message DataType) ∷ (6, Number) ∷ (7, Message FunctionArgument) ∷ (8, Message FunctionOption) ∷ []
named SortRel = (1, Message RelCommon) ∷ (2, Message Rel) ∷ (3, Message SortField) ∷ []
named SortField = (1, Message Expression) ∷ (2, Number) ∷ []
named JoinRel = (1, Message RelCommon) ∷ (2, Message Rel) ∷ (3, Message Rel) ∷ (4, Message Expression) ∷ (5, Message Expression) ∷ (6, Number) ∷ []
named ProjectRel = (1, Message RelCommon) ∷ (2, Message Rel) ∷ (3, Message Expression) ∷ []
named SetRel = (1, Message RelCommon) ∷ (2, Message Rel) ∷ (3, Number) ∷ []
named CrossRel = (1, Message RelCommon) ∷ (2, Message Rel) ∷ (3, Message Rel) ∷ []
named MaskExpression = (1, Message StructSelect) ∷ []
named StructSelect = (1, Message StructItem) ∷ []
named StructItem = (1, Number) ∷ (2, Message Empty) ∷ []
named Expression = (1, Message Literal) ∷ (2, Message FieldReference) ∷ (3, Message ScalarFunction) ∷ (6, Message IfThen) ∷ (7, Message SwitchExpression) ∷ (8, Message SingularOrList) ∷ (11, Message Cast) ∷ (12, Message Subquery) ∷ []
named ScalarFunction = (1, Number) ∷ (3, Message DataType) ∷ (4, Message FunctionArgument) ∷ (5, Message FunctionOption) ∷ []
named FunctionArgument = (1, Text) ∷ (2, Message DataType) ∷ (3, Message Expression) ∷ []
named FunctionOption = (1, Text) ∷ (2, Text) ∷ []
named FieldReference = (1, Message ReferenceSegment) ∷ (2, Bytes) ∷ (3, Bytes) ∷ (4, Message Empty) ∷ (5, Bytes) ∷ []
named ReferenceSegment = (2, Message StructField) ∷ []
named StructField = (1, Number) ∷ (2, Message Empty) ∷ []
named IfThen = (1, Message IfClause) ∷ (2, Message Expression) ∷ []
named IfClause = (1, Message Expression) ∷ (2, Message Expression) ∷ []
named SwitchExpression = (1, Message IfValue) ∷ (2, Message Expression) ∷ (3, Message Expression) ∷ []
named IfValue = (1, Message Literal) ∷ (2, Message Expression) ∷ []
named SingularOrList = (1, Message Expression) ∷ (2, Message Expression) ∷ []
named Cast = (1, Message DataType) ∷ (2, Message Expression) ∷ (3, Number) ∷ []
named Literal = (1, Number) ∷ (2, Number) ∷ (3, Number) ∷ (5, Number) ∷ (7, Number) ∷ (12, Text) ∷ (13, Bytes) ∷ (14, Number) ∷ (16, Number) ∷ (24, Message DecimalLiteral) ∷ (29, Message DataType) ∷ (50, Number) ∷ []
named DecimalLiteral = (1, Bytes) ∷ (2, Number) ∷ (3, Number) ∷ []
named DataType = (1, Message PlainType) ∷ (2, Message PlainType) ∷ (3, Message PlainType) ∷ (5, Message PlainType) ∷ (7, Message PlainType) ∷ (12, Message PlainType) ∷ (13, Message PlainType) ∷ (14, Message PlainType) ∷ (16, Message PlainType) ∷ (24, Message DecimalType) ∷ (25, Message StructType) ∷ []
named PlainType = (2, Number) ∷ []
named DecimalType = (1, Number) ∷ (2, Number) ∷ (4, Number) ∷ []
named Subquery = (1, Message ScalarSubquery) ∷ (2, Message InPredicate) ∷ (3, Message SetPredicate) ∷ (4, Bytes) ∷ []
named ScalarSubquery = (1, Message Rel) ∷ []
named InPredicate = (1, Message Expression) ∷ (2, Message Rel) ∷ []
named SetPredicate = (1, Number) ∷ (2, Message Rel) ∷ []

-- what the field of this number holds, by a list of fields
abbrev pub look_up : ℕ → List (ℕ × Use) → Use
look_up number [] = Unnamed
look_up number (field ∷ fields) = if number == field.0 then field.1 else look_up number fields

-- what the field of this number holds in a message
abbrev pub use_of : Shape → ℕ → Use
use_of shape number = look_up number (named shape)

-- the field of this number holds messages of a shape, or texts
abbrev pub HoldsMessage : Shape → ℕ → Shape → Type 0
HoldsMessage shape number inner = use_of shape number ≡ Message inner

abbrev pub HoldsText : Shape → ℕ → Type 0
HoldsText shape number = use_of shape number ≡ Text
