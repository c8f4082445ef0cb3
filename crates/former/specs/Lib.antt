-- the card as it was before request [12]
pub mod Former
-- what document 01 said of the limits
pub mod Document
-- what request [12] asks
pub mod Request
