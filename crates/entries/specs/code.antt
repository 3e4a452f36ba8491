-- What only the contracts of private functions cite.
pub mod Row
pub mod Survey
pub mod SurveyRow
pub mod SurveySound
pub mod SurveyGather
pub mod MarksLoop
pub mod SurveyDirty
